-- A test as a number.
use Rattle.std.proofs.Common.{◌≡◌, Bool, true, false, cond, refl}
use Rattle.std.specs.Int.{from_bool}

pub from_bool_is : (t : Bool) → from_bool t ≡ cond t 1 0
from_bool_is true = refl
from_bool_is false = refl
