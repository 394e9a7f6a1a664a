-- The regular loss of a table, field by field.
use Rattle.std.proofs.Common.{◌≡◌, ℕ, ◌++◌, codes, Option, Ok, refl}
use Rattle.toml_fields.specs.Place.{Place, optional_number}
use Rattle.air_channel.specs.ScriptText.{beside, has, loss, loss_of}

pub loss_read : (p : Place) (one every other until : Option ℕ)
    → optional_number p (codes "drop_every") 2 65535 ≡ Ok one
    → beside (has p (codes "drop_until")) (p.prefix ++ codes "drop_every") one ≡ Ok every
    → optional_number p (codes "drop_until") 0 16777216 ≡ Ok other
    → beside (has p (codes "drop_every")) (p.prefix ++ codes "drop_until") other ≡ Ok until
    → loss p ≡ Ok (loss_of every until)
unfolding loss
loss_read p one every other until first second third fourth = rw (first, second, third, fourth) refl
