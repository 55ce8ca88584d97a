use Rattle.aclck_c.proofs.Asking.{name_added}
use Rattle.aclck_c.proofs.nfs4.questions.add_name.Goals as goal

pub returns : goal.returns
returns c = name_added _ _ _ _ _ _ c.in_ok-add_number.ensures c.in_ok-extend_from_slice.ensures.items
    c.in_ok-extend_from_slice-2.ensures.items c.pad_len.ensures
