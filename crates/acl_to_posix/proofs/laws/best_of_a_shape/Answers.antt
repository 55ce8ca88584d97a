use Rattle.acl_to_posix.proofs.shapes.ShapeChecks.{best_greatest, best_sound}
use Rattle.acl_to_posix.proofs.laws.best_of_a_shape.Goals as goal

pub returns-clause-sound : goal.returns-clause-sound
returns-clause-sound c = best_sound

pub returns-clause-greatest : goal.returns-clause-greatest
returns-clause-greatest c = best_greatest
