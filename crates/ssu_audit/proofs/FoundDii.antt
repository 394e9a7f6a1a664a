-- What is kept of the DII of a group.
use Rattle.std.proofs.Common.{◌≡◌, ℕ, List, Option, Some, None, refl, sym, ap, ◌∙◌}
use Rattle.std.specs.Option.{option_map}
use Rattle.dsmcc_msg.specs.Control.{DiiFields, dii_message}
use Rattle.ssu_audit.specs.declared.key.BlockKey.{BlockKey}
use Rattle.ssu_audit.specs.Calls.{Call}
use Rattle.ssu_audit.specs.Hearing.{first_dii}
use Rattle.ssu_audit.specs.Said.{dii_of_group}
use Rattle.ssu_audit.specs.Standing.{HoldsGroups, message_of_dii}
use Rattle.ssu_audit.proofs.Firsts.{comes, dii_again, of_group}

-- the first DII of the group, which its message says
pub record Found (calls : List Call) (group : ℕ) (bytes : List ℕ) : Type 0 where
  pub first : ℕ × DiiFields
  pub is : first_dii group calls ≡ Some first
  pub again : dii_message.of bytes ≡ Some first.1

pub found : (calls : List Call) (diis : ℕ → Option (ℕ × List ℕ)) (blocks : BlockKey → Option (ℕ × List ℕ)) (group number : ℕ) (bytes : List ℕ) → HoldsGroups calls diis blocks
    → diis group ≡ Some (number, bytes) → Found calls group bytes
found calls diis blocks group number bytes h e = by_first (first_dii group calls) refl (sym (h.first_of group) ∙ e)
  where
    by_first : (o : Option (ℕ × DiiFields)) → first_dii group calls ≡ o → option_map message_of_dii (first_dii group calls) ≡ Some (number, bytes) → Found calls group bytes
    by_first None f e = let none : option_map message_of_dii (first_dii group calls) ≡ None = ap (option_map message_of_dii) f in cc
    by_first (Some first) f e =
        let kept : option_map message_of_dii (first_dii group calls) ≡ Some (first.0, first.1.message) = ap (option_map message_of_dii) f in
        let both : (first.0, first.1.message) ≡ (number, bytes) = cc in
        let message : first.1.message ≡ bytes = ap (λ (x : ℕ × List ℕ). x.1) both in
        let c = comes (dii_of_group group) calls first f in
        let own = of_group group c.section first.1 c.said in
        record {
          first = first;
          is = f;
          again = ap (λ (xs : List ℕ). dii_message.of xs) (sym message) ∙ dii_again c.section first.1 own.0;
        }
