use Rattle.std.proofs.Common.{rules}
use Rattle.aclck_c.specs.Ids.{IsRefusedForIds, MakesIds}
use Rattle.aclck_c.specs.Options.{IsProfileOption, profile_from}
use Rattle.aclck_c.proofs.Endings.{writes_of_file}
use Rattle.aclck_c.proofs.FileFailures.{good_names}
use Rattle.aclck_c.proofs.nfs4.ids.aclck_prepare_ids.Goals as goal

pub returns : goal.returns
returns c =
    let p = profile_from c.args.options in
    let names = c.args.names.now.names in
    let w = writes_of_file {given = record { text = c.args.acl; names = names }}
    {IsRefused = IsRefusedForIds p c.args.acl.now names.now} {AreGood = IsProfileOption c.args.options}
    {Means = MakesIds p c.args.acl.now names.now} (λ _ h. good_names names.now h.table h.named) (λ _ h. h.named)
    (search rules) (rw c.in-Some.ensures.value at c.prepared.ensures.ok)
    (rw c.in-Some.ensures.value at c.prepared.ensures.err) c.answer.ensures in
    record {
      bytes = w.bytes;
      input = record {
        refusal = w.input.refusal;
        bad = w.input.arguments.bad;
        good = w.input.arguments.good;
        named = w.input.arguments.named;
        known = w.input.known;
      };
    }
