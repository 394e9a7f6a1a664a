-- The message of a DII, as its section has it.
use Rattle.std.proofs.Common.{◌≡◌, ℕ, ◌≤◌, List, length, Some, sym, ap, subst, ◌∙◌}
use Rattle.std.proofs.lemmas.Bool.{leb-true}
use Rattle.dsmcc_msg.specs.Control.{DiiFields, dii, dii_message}
use Rattle.dsmcc_msg.proofs.Exact.{dii_message_exact}
use Rattle.ssu_route.specs.Offers.{dii_of}

-- the message is the text that spells it
own_text : (d : DiiFields) (p : List ℕ) → dii_message.Spells d p → (d.message ≡ p) × (length p ≤ 4084)
unfolding dii_message
own_text d p s =
    let fits : length p ≤ 4084 = leb-true (length p) 4084 s.2.0.0 in
    (ap (λ (x : DiiFields). x.message) (sym s.1) ∙ s.2.1, fits)

-- the message is a spelling of the same DII
spelled : (d : DiiFields) (section : List ℕ) → dii.Spells d section → dii_message.Spells d d.message × (length d.message ≤ 4084)
unfolding dii
spelled d section s =
    let inner : dii_message.Spells d s.0.0.body = subst (λ (x : DiiFields). dii_message.Spells x s.0.0.body) s.1 s.2.1 in
    let own = own_text d s.0.0.body inner in
    (subst (λ (p : List ℕ). dii_message.Spells d p) (sym own.0) inner, subst (λ (p : List ℕ). length p ≤ 4084) (sym own.0) own.1)

pub message_read : (d : DiiFields) (section : List ℕ) → dii.Spells d section → dii_of d.message ≡ Some d
unfolding dii_of
message_read d section s = dii_message_exact.again d d.message (spelled d section s).0

pub message_short : (d : DiiFields) (section : List ℕ) → dii.Spells d section → length d.message ≤ 4084
message_short d section s = (spelled d section s).1
