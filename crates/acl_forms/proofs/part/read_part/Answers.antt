use Rattle.std.proofs.Common.{[], arith}
use Rattle.acl_forms.specs.NfsRules.{nfs_rules}
use Rattle.acl_forms.specs.PartTexts.{nfs_any_entry, nfs_any_rules, tools_any_entry, tools_any_rules}
use Rattle.acl_forms.specs.ToolsRules.{tools_rules}
use Rattle.acl_forms.proofs.AnyEntries.{nfs_follow, tools_follow}
use Rattle.acl_forms.proofs.AnyTexts.{text_whole, texts_fault, texts_found, texts_only, texts_refused}
use Rattle.acl_forms.proofs.PartFaults.{any_fault, any_refused, name_reads, number_reads}
use Rattle.acl_forms.proofs.PartLists.{words_found, words_only}
use Rattle.acl_forms.proofs.PartWords.{reader_by_name, reader_by_number}
use Rattle.acl_forms.proofs.WholeLists.{named_whole, numbered_whole}
use Rattle.acl_forms.proofs.part.read_part.Goals as goal

pub returns-in-NfsAcl41-clause-found : goal.returns-in-NfsAcl41-clause-found
returns-in-NfsAcl41-clause-found c =
    rw c.in-NfsAcl41.is (words_found reader_by_name c.args.bytes.now (λ i. omega (arith, c.type_inv.bytes i))
    c.read_words.result c.read_words.ensures)

pub returns-in-NfsAcl41-clause-only : goal.returns-in-NfsAcl41-clause-only
returns-in-NfsAcl41-clause-only c =
    rw c.in-NfsAcl41.is (words_only reader_by_name c.args.bytes.now c.read_words.result c.read_words.ensures)

pub returns-in-NfsAcl41-clause-fault : goal.returns-in-NfsAcl41-clause-fault
returns-in-NfsAcl41-clause-fault c =
    rw c.in-NfsAcl41.is (any_fault reader_by_name name_reads c.args.bytes.now (λ i. omega (arith, c.type_inv.bytes i))
    c.read_words.result c.read_words.ensures)

pub returns-in-NfsAcl41-clause-refused : goal.returns-in-NfsAcl41-clause-refused
returns-in-NfsAcl41-clause-refused c =
    rw c.in-NfsAcl41.is (any_refused reader_by_name name_reads c.args.bytes.now c.read_words.result
    c.read_words.ensures)

pub returns-in-NfsAcl41-clause-whole : goal.returns-in-NfsAcl41-clause-whole
returns-in-NfsAcl41-clause-whole c = rw c.in-NfsAcl41.is (λ set list h.
    words_only reader_by_name c.args.bytes.now c.read_words.result c.read_words.ensures set list []
    (named_whole set list c.args.bytes.now h))

pub returns-in-NfsAcl41Ids-clause-found : goal.returns-in-NfsAcl41Ids-clause-found
returns-in-NfsAcl41Ids-clause-found c =
    rw c.in-NfsAcl41Ids.is (words_found reader_by_number c.args.bytes.now (λ i. omega (arith, c.type_inv.bytes i))
    c.read_words-in-NfsAcl41Ids.result c.read_words-in-NfsAcl41Ids.ensures)

pub returns-in-NfsAcl41Ids-clause-only : goal.returns-in-NfsAcl41Ids-clause-only
returns-in-NfsAcl41Ids-clause-only c =
    rw c.in-NfsAcl41Ids.is (words_only reader_by_number c.args.bytes.now c.read_words-in-NfsAcl41Ids.result
    c.read_words-in-NfsAcl41Ids.ensures)

pub returns-in-NfsAcl41Ids-clause-fault : goal.returns-in-NfsAcl41Ids-clause-fault
returns-in-NfsAcl41Ids-clause-fault c =
    rw c.in-NfsAcl41Ids.is (any_fault reader_by_number number_reads c.args.bytes.now
    (λ i. omega (arith, c.type_inv.bytes i)) c.read_words-in-NfsAcl41Ids.result c.read_words-in-NfsAcl41Ids.ensures)

pub returns-in-NfsAcl41Ids-clause-refused : goal.returns-in-NfsAcl41Ids-clause-refused
returns-in-NfsAcl41Ids-clause-refused c =
    rw c.in-NfsAcl41Ids.is (any_refused reader_by_number number_reads c.args.bytes.now c.read_words-in-NfsAcl41Ids.result
    c.read_words-in-NfsAcl41Ids.ensures)

pub returns-in-NfsAcl41Ids-clause-whole : goal.returns-in-NfsAcl41Ids-clause-whole
returns-in-NfsAcl41Ids-clause-whole c = rw c.in-NfsAcl41Ids.is (λ set list h.
    words_only reader_by_number c.args.bytes.now c.read_words-in-NfsAcl41Ids.result
    c.read_words-in-NfsAcl41Ids.ensures set list [] (numbered_whole set list c.args.bytes.now h))

pub returns-in-NfsTools-clause-found : goal.returns-in-NfsTools-clause-found
returns-in-NfsTools-clause-found c =
    rw c.in-NfsTools.is (texts_found (tools_any_rules c.in-NfsTools.object) c.args.bytes.now c.read_text_part.result
    c.read_text_part.ensures)

pub returns-in-NfsTools-clause-only : goal.returns-in-NfsTools-clause-only
returns-in-NfsTools-clause-only c =
    rw c.in-NfsTools.is (texts_only (tools_any_rules c.in-NfsTools.object) c.args.bytes.now c.read_text_part.result
    c.read_text_part.ensures)

pub returns-in-NfsTools-clause-fault : goal.returns-in-NfsTools-clause-fault
returns-in-NfsTools-clause-fault c =
    rw c.in-NfsTools.is (texts_fault (tools_any_rules c.in-NfsTools.object) c.args.bytes.now c.read_text_part.result
    c.read_text_part.ensures)

pub returns-in-NfsTools-clause-refused : goal.returns-in-NfsTools-clause-refused
returns-in-NfsTools-clause-refused c =
    rw c.in-NfsTools.is (texts_refused (tools_any_rules c.in-NfsTools.object) c.args.bytes.now c.read_text_part.result
    c.read_text_part.ensures)

pub returns-in-NfsTools-clause-whole : goal.returns-in-NfsTools-clause-whole
returns-in-NfsTools-clause-whole c = rw c.in-NfsTools.is (λ set list h.
    texts_only (tools_any_rules c.in-NfsTools.object) c.args.bytes.now c.read_text_part.result c.read_text_part.ensures
    set list [] (text_whole (tools_rules c.in-NfsTools.object) (tools_any_entry c.in-NfsTools.object)
    (tools_follow c.in-NfsTools.object) set list c.args.bytes.now h))

pub returns-in-NfsText-clause-found : goal.returns-in-NfsText-clause-found
returns-in-NfsText-clause-found c =
    rw c.in-NfsText.is (texts_found (nfs_any_rules c.in-NfsText.source) c.args.bytes.now
    c.read_text_part-in-NfsText.result c.read_text_part-in-NfsText.ensures)

pub returns-in-NfsText-clause-only : goal.returns-in-NfsText-clause-only
returns-in-NfsText-clause-only c =
    rw c.in-NfsText.is (texts_only (nfs_any_rules c.in-NfsText.source) c.args.bytes.now
    c.read_text_part-in-NfsText.result c.read_text_part-in-NfsText.ensures)

pub returns-in-NfsText-clause-fault : goal.returns-in-NfsText-clause-fault
returns-in-NfsText-clause-fault c =
    rw c.in-NfsText.is (texts_fault (nfs_any_rules c.in-NfsText.source) c.args.bytes.now
    c.read_text_part-in-NfsText.result c.read_text_part-in-NfsText.ensures)

pub returns-in-NfsText-clause-refused : goal.returns-in-NfsText-clause-refused
returns-in-NfsText-clause-refused c =
    rw c.in-NfsText.is (texts_refused (nfs_any_rules c.in-NfsText.source) c.args.bytes.now
    c.read_text_part-in-NfsText.result c.read_text_part-in-NfsText.ensures)

pub returns-in-NfsText-clause-whole : goal.returns-in-NfsText-clause-whole
returns-in-NfsText-clause-whole c = rw c.in-NfsText.is (λ set list h.
    texts_only (nfs_any_rules c.in-NfsText.source) c.args.bytes.now c.read_text_part-in-NfsText.result
    c.read_text_part-in-NfsText.ensures
    set list [] (text_whole (nfs_rules c.in-NfsText.source) (nfs_any_entry c.in-NfsText.source)
    (nfs_follow c.in-NfsText.source) set list c.args.bytes.now h))
