-- Inputs of `show-posix` that get one text.
use Rattle.std.proofs.Common.{◌≡◌, ◌∙◌, List, ℕ, ap}
use Rattle.acl_posix.specs.Grammar.{Reads}
use Rattle.acl_posix.specs.Names.{Table}
use Rattle.acl_posix.specs.Texts.{canonical_text}
use Rattle.acl_posix.specs.declared.file.PosixFile.{PosixFile}
use Rattle.acl_posix.proofs.Exports.{apart, canonical_reads, file_of_text, one_file}
use Rattle.aclck.specs.Laws.{ShowPosixTellsApart, ShowsCanonical}
use Rattle.aclck.proofs.NormalFormLemmas.{same_or_not}

-- the text that is shown is that of the file that the input spells
text_of_file : (t : Table) (x a : List ℕ) (f : PosixFile) → Reads x t f → ShowsCanonical t x a
    → a ≡ canonical_text f.access f.default
text_of_file t x a f h shows = shows.1.is ∙ ap (λ (k : PosixFile). canonical_text k.access k.default)
    (one_file x t shows.1.file f shows.1.read h)

-- two inputs get the same text if and only if their sets of entries are equal
pub by_text : ShowPosixTellsApart
by_text t u x y a b f g ht hu rf rg sa sb =
    same_or_not a b (canonical_text f.access f.default) (canonical_text g.access g.default) (text_of_file t x a f rf sa)
    (text_of_file u y b g rg sb)
    (apart canonical_text canonical_reads f g (file_of_text x t f ht rf) (file_of_text y u g hu rg))
