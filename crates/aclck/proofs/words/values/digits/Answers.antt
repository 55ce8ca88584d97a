use Rattle.aclck.proofs.ValueLemmas.{parsed_digits}
use Rattle.aclck.proofs.words.values.digits.Goals as goal

pub returns : goal.returns
returns c =
    parsed_digits 32 c.args.radix c.args.word.now c.from_str_radix.result c.requires.radix.1 c.requires.digits
    c.from_str_radix.ensures.value
