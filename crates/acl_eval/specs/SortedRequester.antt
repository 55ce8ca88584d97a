-- The requester of whose groups there may be a sorted copy (this library's own).
use Rattle.acl_eval.specs.declared.situation.Requester.{Requester}
use Rattle.acl_eval.specs.declared.sorted_requester.SortedRequester.{SortedRequester}

-- the requester
abbrev pub requester_of : SortedRequester → Requester
requester_of sorted = sorted.requester
