-- What is heard in a front of the bytes, and what is decided by it.
use Rattle.std.proofs.Common.{◌≡◌, ◌⊎◌, inl, inr, ⊎_elim, zero, suc, ℕ, ◌*◌, ◌/◌, ◌<◌, ◌≤◌, List, [], ◌∷◌, ◌++◌, length, map, reverse, take, drop, Option, Some, None, refl, sym, ap, subst, ◌∙◌, arith, append_assoc}
use Rattle.std.proofs.lemmas.List.{append_cancel_right, reverse-append, take-append-drop, take-append-le, length-drop, length-take}
use Rattle.std.proofs.Math.Seq.{take-append_seam}
use Rattle.ssu_io.specs.Bytes.{Takes}
use Rattle.ts_input.specs.Packets.{packets}
use Rattle.ts_input.proofs.PacketLemmas.{packets_append, packets_end}
use Rattle.ts_packet.specs.Packet.{pid_of}
use Rattle.ts_section.specs.Events.{Feed, Heard, heard}
use Rattle.route_tables.specs.Next.{heard_on}
use Rattle.route_tables.specs.Values.{Receiver}
use Rattle.ssu_route.specs.Queries.{followed, heard_by}
use Rattle.ssu_route.specs.Windows.{beginnings}
use Rattle.ssu_route.proofs.Following.{heard_more}
use Rattle.ssu_loader.specs.Decisions.{Decision, IsOpen, Reaches}
use Rattle.ssu_loader.specs.Replays.{heard_in}
use Rattle.ssu_loader.proofs.DecisionLaws.{reaches_more}
use Rattle.ssu_loader.proofs.OneDecisionLaws.{reaches_one}

-- ---- more packets

-- Behind a front come later items.
pub record Ends {A : Type 0} (front whole : List A) : Type 0 where
  pub later : List A
  pub is : whole ≡ front ++ later

-- Before what was first come newer items.
pub record Begins {A : Type 0} (first whole : List A) : Type 0 where
  pub newer : List A
  pub is : whole ≡ newer ++ first

packets_front : (front back : List ℕ) → Ends (packets front) (packets (front ++ back))
packets_front front back =
    let n = length front / 188 in
    let whole = take (188 * n) front in
    let rest = drop (188 * n) front in
    let size : length whole ≡ 188 * n = omega (arith, length-take (188 * n) front) in
    let short : length rest < 188 = omega (arith, length-drop (188 * n) front) in
    let parts : whole ++ rest ≡ front = take-append-drop (188 * n) front in
    let own : packets front ≡ packets whole = ap packets (sym parts) ∙ packets_end whole rest n size short in
    record {
      later = packets (rest ++ back);
      is = ap (λ (bytes : List ℕ). packets (bytes ++ back)) (sym parts)
          ∙ (ap packets (append_assoc whole rest back)
          ∙ (packets_append whole (rest ++ back) n size
          ∙ ap (λ (ps : List (List ℕ)). ps ++ packets (rest ++ back)) (sym own)));
    }

heard_later : (me : Receiver) (newer ps : List (List ℕ)) → Begins (heard_by me ps) (heard_by me (newer ++ ps))
heard_later me [] ps = record { newer = []; is = refl }
heard_later me (packet ∷ newer) ps =
    let before = heard_later me newer ps in
    let each = heard (Feed packet ∷ followed me (newer ++ ps)) in
    let own = reverse (map (heard_on (pid_of packet)) each) in
    record {
      newer = own ++ before.newer;
      is = heard_more me packet (newer ++ ps) each refl
          ∙ (ap (λ (xs : List Heard). own ++ xs) before.is
          ∙ sym (append_assoc own before.newer (heard_by me ps)));
    }

heard_front : (me : Receiver) (front back : List ℕ) → Begins (heard_in me front) (heard_in me (front ++ back))
unfolding heard_in
heard_front me front back =
    let behind = packets_front front back in
    let later = heard_later me (reverse behind.later) (reverse (packets front)) in
    record {
      newer = later.newer;
      is = ap (λ (ps : List (List ℕ)). heard_by me (reverse ps)) behind.is
          ∙ (ap (heard_by me) (reverse-append (packets front) behind.later)
          ∙ later.is);
    }

-- what a front decides stays decided
pub front_reaches : (me : Receiver) (front back : List ℕ) (d : Decision) → Reaches me (heard_in me front) d → Reaches me (heard_in me (front ++ back)) d
front_reaches me front back d is =
    let more = heard_front me front back in
    subst (λ (xs : List Heard). Reaches me xs d) (sym more.is) (reaches_more me more.newer (heard_in me front) d is)

-- ---- where no choice began, none began before

beginnings_before : (me : Receiver) (newer earlier : List Heard) → beginnings me (newer ++ earlier) ≡ 0 → beginnings me earlier ≡ 0
unfolding beginnings
beginnings_before me [] earlier none = none
beginnings_before me (item ∷ newer) earlier none = beginnings_before me newer earlier (omega (arith, none))

pub packet_later : (me : Receiver) (packet : List ℕ) (ps : List (List ℕ)) → Begins (heard_by me ps) (heard_by me (packet ∷ ps))
packet_later me packet ps = heard_later me (packet ∷ []) ps

pub none_before : (me : Receiver) (packet : List ℕ) (ps : List (List ℕ)) → beginnings me (heard_by me (packet ∷ ps)) ≡ 0 → beginnings me (heard_by me ps) ≡ 0
none_before me packet ps none =
    let more = heard_later me (packet ∷ []) ps in
    beginnings_before me more.newer (heard_by me ps) (ap (beginnings me) (sym more.is) ∙ none)

-- ---- two fronts of the same bytes

-- what was taken, where it is told what was left then
pub taken_is : (left left_after : Option (List ℕ)) (own taken rest : List ℕ) → left ≡ Some (taken ++ rest) → left_after ≡ Some rest → Takes left left_after own → own ≡ taken
taken_is (Some bytes) (Some after) own taken rest e f takes =
    let same : bytes ≡ taken ++ rest = cc in
    let behind : after ≡ rest = cc in
    append_cancel_right own taken rest (ap (λ (xs : List ℕ). own ++ xs) (sym behind) ∙ (sym takes ∙ same))
taken_is (Some bytes) None own taken rest e f takes = absurd takes
taken_is None left_after own taken rest e f takes = cc

shorter_front : (a b c d : List ℕ) → a ++ b ≡ c ++ d → length a ≤ length c → Ends a c
shorter_front a b c d same short =
    let front : take (length a) c ≡ a =
    sym (take-append-le (length a) c d short) ∙ (ap (take (length a)) (sym same) ∙ take-append_seam a b) in
    record {
      later = drop (length a) c;
      is = sym (take-append-drop (length a) c) ∙ ap (λ (xs : List ℕ). xs ++ drop (length a) c) front;
    }

reaches_in : (me : Receiver) (front whole : List ℕ) (d : Decision) → Ends front whole → Reaches me (heard_in me front) d → Reaches me (heard_in me whole) d
reaches_in me front whole d ends is = subst (λ (bytes : List ℕ). Reaches me (heard_in me bytes) d) (sym ends.is) (front_reaches me front ends.later d is)

either : (m n : ℕ) → (m ≤ n) ⊎ (n ≤ m)
either zero n = inl (omega arith)
either (suc m) zero = inr (omega arith)
either (suc m) (suc n) = ⊎_elim (λ le. inl (omega (arith, le))) (λ ge. inr (omega (arith, ge))) (either m n)

-- decide the same
pub fronts_agree : (me : Receiver) (a b c d : List ℕ) (x y : Decision) → a ++ b ≡ c ++ d → Reaches me (heard_in me a) x → Reaches me (heard_in me c) y → x ≡ y
fronts_agree me a b c d x y same first second =
    ⊎_elim
    (λ short. reaches_one me (heard_in me c) x y (reaches_in me a c x (shorter_front a b c d same short) first) second)
    (λ long. reaches_one me (heard_in me a) x y first (reaches_in me c a y (shorter_front c d a b (sym same) long) second))
    (either (length a) (length c))

-- and a longer front is decided where a shorter one is
pub front_is_open : (me : Receiver) (a b c d : List ℕ) (x : Decision) → a ++ b ≡ c ++ d → length a ≤ length c → IsOpen me (heard_in me c) → Reaches me (heard_in me a) x → ⊥
front_is_open me a b c d x same short undecided is = undecided x (reaches_in me a c x (shorter_front a b c d same short) is)
