-- Changes of one packet, change by change.
use Rattle.std.proofs.Common.{zero, suc, ◌≡◌, ℕ, ◌+◌, ◌*◌, ◌<◌, ◌≤◌, Bool, true, false, ◌&&◌, ◌==◌, cond, if◌then◌else◌, nat_le, List, [], ◌∷◌, ◌++◌, map, length, get_or, take, drop, set, fold, All, refl, sym, ap, ◌∙◌, arith, eq-eqb, ne_eqb, leb-true, take-append-drop, length-drop, length-take-le, get_or-drop, get_or-take}
use Rattle.std.proofs.lemmas.Bool.{and_parts}
use Rattle.std.proofs.lemmas.List.{take_more}
use Rattle.std.proofs.lemmas.List.Sums.{fold-append}
use Rattle.air_channel.specs.Passing.{changed}
use Rattle.air_channel.specs.Scripts.{AreChanges, IsChange, byte_number, rises}
use Rattle.air_channel.specs.declared.change.Change.{Change}

-- the packet with the change, if it is its own
abbrev pub changed_by : ℕ → List ℕ → Change → List ℕ
changed_by n packet change = if change.packet == n then set packet change.offset change.byte else packet

by_other : (n : ℕ) (p : List ℕ) (c : Change) → (c.packet ≡ n → ⊥) → changed_by n p c ≡ p
by_other n p c other = rw (ne_eqb c.packet n other) refl

by_own : (n : ℕ) (p : List ℕ) (c : Change) → c.packet ≡ n → changed_by n p c ≡ set p c.offset c.byte
by_own n p c own = rw (eq-eqb c.packet n own) refl

-- changes of other packets
pub changed_none : (cs : List Change) (n : ℕ) (p : List ℕ) → ((k : ℕ) (d : Change) → k < length cs → (get_or cs k d).packet ≡ n → ⊥) → changed cs n p ≡ p
changed_none [] n p other = refl
changed_none (c ∷ cs) n p other =
    ap (λ q. changed cs n q) (by_other n p c (other 0 c (omega arith)))
    ∙ changed_none cs n p (λ k d low. other (suc k) d (omega (arith, low)))

-- changes of packets before it
pub changed_before : (cs : List Change) (n : ℕ) (p : List ℕ) (k : ℕ) → k ≤ length cs → ((i : ℕ) (d : Change) → i < k → (get_or cs i d).packet < n) → changed (take k cs) n p ≡ p
changed_before cs n p k within before =
    changed_none (take k cs) n p (λ i d low same.
    let inside : i < k = omega (arith, low, length-take-le k cs within) in
    let at : get_or (take k cs) i d ≡ get_or cs i d = get_or-take k cs i d inside in
    let less : (get_or cs i d).packet < n = before i d inside in
    let here : (get_or cs i d).packet ≡ n = sym (ap (λ (c : Change). c.packet) at) ∙ same in
    omega (arith, less, here))

-- one more change of the packet
pub changed_step : (cs : List Change) (n : ℕ) (p : List ℕ) (k : ℕ) (d : Change) → k < length cs → (get_or cs k d).packet ≡ n
    → changed (take (k + 1) cs) n p ≡ set (changed (take k cs) n p) (get_or cs k d).offset (get_or cs k d).byte
changed_step cs n p k d low own =
    ap (λ front. changed front n p) (take_more cs k d low)
    ∙ fold-append (changed_by n) p (take k cs) (get_or cs k d ∷ [])
    ∙ by_own n (changed (take k cs) n p) (get_or cs k d) own

-- the changes in front and the others
pub changed_split : (cs : List Change) (n : ℕ) (p : List ℕ) (k : ℕ) → changed cs n p ≡ changed (drop k cs) n (changed (take k cs) n p)
changed_split cs n p k =
    ap (λ all. changed all n p) (sym (take-append-drop k cs))
    ∙ fold-append (changed_by n) p (take k cs) (drop k cs)

ordered_least : (least : ℕ) (cs : List Change) → rises 1 least (map byte_number cs) ≡ true → (k : ℕ) (d : Change) → k < length cs → least ≤ byte_number (get_or cs k d)
ordered_least least [] up k d low = absurd (omega (arith, low))
ordered_least least (c ∷ cs) up zero d low =
    let (first, others) = and_parts (nat_le least (byte_number c)) (rises 1 (byte_number c + 1) (map byte_number cs)) up in leb-true least (byte_number c) first
ordered_least least (c ∷ cs) up (suc k) d low =
    let (first, others) = and_parts (nat_le least (byte_number c)) (rises 1 (byte_number c + 1) (map byte_number cs)) up in
    let below : least ≤ byte_number c = leb-true least (byte_number c) first in
    let above : byte_number c + 1 ≤ byte_number (get_or cs k d) = ordered_least (byte_number c + 1) cs others k d (omega (arith, low)) in
    omega (arith, below, above)

ordered : (least : ℕ) (cs : List Change) → rises 1 least (map byte_number cs) ≡ true → (i j : ℕ) (d : Change) → i ≤ j → j < length cs → byte_number (get_or cs i d) ≤ byte_number (get_or cs j d)
ordered least [] up i j d order low = absurd (omega (arith, low))
ordered least (c ∷ cs) up zero zero d order low = omega arith
ordered least (c ∷ cs) up zero (suc j) d order low =
    let (first, others) = and_parts (nat_le least (byte_number c)) (rises 1 (byte_number c + 1) (map byte_number cs)) up in
    let above : byte_number c + 1 ≤ byte_number (get_or cs j d) = ordered_least (byte_number c + 1) cs others j d (omega (arith, low)) in
    omega (arith, above)
ordered least (c ∷ cs) up (suc i) zero d order low = absurd (omega (arith, order))
ordered least (c ∷ cs) up (suc i) (suc j) d order low =
    let (first, others) = and_parts (nat_le least (byte_number c)) (rises 1 (byte_number c + 1) (map byte_number cs)) up in
    ordered (byte_number c + 1) cs others i j d (omega (arith, order)) (omega (arith, low))

-- the numbers of the packets never fall
pub packets_ordered : (cs : List Change) → AreChanges cs → (i j : ℕ) (d : Change) → i ≤ j → j < length cs → (get_or cs i d).packet ≤ (get_or cs j d).packet
packets_ordered cs are i j d order low =
    let bytes : byte_number (get_or cs i d) ≤ byte_number (get_or cs j d) = ordered 0 cs are.ascending i j d order low in
    let inside : (get_or cs j d).offset ≤ 187 = (are.in_range j d low).offset_in in
    omega (arith, bytes, inside)

-- all changes of the packet stand in front of this place
pub changed_end : (cs : List Change) (n : ℕ) (p : List ℕ) (k : ℕ) → AreChanges cs
    → ((i : ℕ) (d : Change) → k ≤ i → i < length cs → n ≤ (get_or cs i d).packet)
    → (k < length cs → (d : Change) → (get_or cs k d).packet ≡ n → ⊥)
    → changed (take k cs) n p ≡ changed cs n p
changed_end cs n p k are behind other =
    let past : (i : ℕ) (d : Change) → i < length (drop k cs) → (get_or (drop k cs) i d).packet ≡ n → ⊥ = λ i d low same.
    let inside : k + i < length cs = omega (arith, low, length-drop k cs) in
    let at : get_or (drop k cs) i d ≡ get_or cs (k + i) d = get_or-drop k cs i d in
    let here : (get_or cs (k + i) d).packet ≡ n = sym (ap (λ (c : Change). c.packet) at) ∙ same in
    let least : n ≤ (get_or cs k d).packet = behind k d (omega arith) (omega (arith, inside)) in
    let order : (get_or cs k d).packet ≤ (get_or cs (k + i) d).packet = packets_ordered cs are k (k + i) d (omega arith) inside in
    let own : (get_or cs k d).packet ≡ n = omega (arith, least, order, here) in
    other (omega (arith, inside)) d own in
    sym (changed_none (drop k cs) n (changed (take k cs) n p) past) ∙ sym (changed_split cs n p k)
