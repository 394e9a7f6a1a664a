-- The packets at their places, after one packet more.
use Rattle.std.proofs.Common.{zero, suc, ◌≡◌, ℕ, ◌+◌, ◌<◌, ◌≤◌, Bool, true, false, ◌&&◌, ◌||◌, ◌==◌, if◌then◌else◌, nat_le, List, [], ◌∷◌, ◌++◌, length, get_or, take, drop, set, fold, refl, sym, ap, ◌∙◌, arith, length-append, length-set, append_assoc, eq-eqb, ne_eqb, eqb-true, leb-true, ⊎_elim, true≢false}
use Rattle.std.proofs.lemmas.Bool.{and_parts, cases_Bool, cases_lt}
use Rattle.air_channel.specs.Aired.{exchanged, is_in, placed, with_change}
use Rattle.air_channel.specs.Passing.{changed}
use Rattle.air_channel.specs.Scripts.{ScriptData, rises}
use Rattle.air_channel.specs.declared.change.Change.{Change}
use Rattle.air_channel.proofs.Changing.{changed_by}
use Rattle.air_channel.proofs.Rising.{rises_least}

eqb_suc : (k n : ℕ) → (suc k == suc n) ≡ (k == n)
eqb_suc k n =
    ⊎_elim (λ (e : (k == n) ≡ true). eq-eqb (suc k) (suc n) (ap suc (eqb-true k n e)) ∙ sym e)
    (λ (e : (k == n) ≡ false).
    ne_eqb (suc k) (suc n) (λ same. let equal : k ≡ n = omega (arith, same) in true≢false (sym (eq-eqb k n equal) ∙ e)) ∙ sym e)
    (cases_Bool (k == n))

-- one change of the packets with one more
set_last : (ps : List (List ℕ)) (p : List ℕ) (k : ℕ) (f : List ℕ → List ℕ)
    → set (ps ++ p ∷ []) k (f (get_or (ps ++ p ∷ []) k [])) ≡ set ps k (f (get_or ps k [])) ++ (if k == length ps then f p else p) ∷ []
set_last [] p zero f = refl
set_last [] p (suc k) f = rw (ne_eqb (suc k) 0 (λ same. omega (arith, same))) refl
set_last (q ∷ ps) p zero f = rw (ne_eqb 0 (suc (length ps)) (λ same. omega (arith, same))) refl
set_last (q ∷ ps) p (suc k) f =
    rw (eqb_suc k (length ps)) (ap (λ (rest : List (List ℕ)). q ∷ rest) (set_last ps p k f))

change_more : (ps : List (List ℕ)) (p : List ℕ) (c : Change) → with_change (ps ++ p ∷ []) c ≡ with_change ps c ++ changed_by (length ps) p c ∷ []
change_more ps p c = set_last ps p c.packet (λ q. set q c.offset c.byte)

pub length-changes : (cs : List Change) (ps : List (List ℕ)) → length (fold with_change ps cs) ≡ length ps
length-changes [] ps = refl
length-changes (c ∷ cs) ps = length-changes cs (with_change ps c) ∙ length-set ps c.packet (set (get_or ps c.packet []) c.offset c.byte)

-- the changes of the packets with one more
pub changes_more : (cs : List Change) (ps : List (List ℕ)) (p : List ℕ) → fold with_change (ps ++ p ∷ []) cs ≡ fold with_change ps cs ++ changed cs (length ps) p ∷ []
changes_more [] ps p = refl
changes_more (c ∷ cs) ps p =
    let q = changed_by (length ps) p c in
    let same : length (with_change ps c) ≡ length ps = length-set ps c.packet (set (get_or ps c.packet []) c.offset c.byte) in
    ap (λ (qs : List (List ℕ)). fold with_change qs cs) (change_more ps p c)
    ∙ changes_more cs (with_change ps c) q
    ∙ ap (λ (n : ℕ). fold with_change (with_change ps c) cs ++ changed cs n q ∷ []) same

pub length-exchanged : (ps : List (List ℕ)) (n : ℕ) → length (exchanged ps n) ≡ length ps
length-exchanged [] n = refl
length-exchanged (a ∷ []) zero = refl
length-exchanged (a ∷ b ∷ ps) zero = refl
length-exchanged (a ∷ ps) (suc n) = ap suc (length-exchanged ps n)

pub length-exchanges : (ns : List ℕ) (ps : List (List ℕ)) → length (fold exchanged ps ns) ≡ length ps
length-exchanges [] ps = refl
length-exchanges (n ∷ ns) ps = length-exchanges ns (exchanged ps n) ∙ length-exchanged ps n

-- the last packet is not one of the two
exchange_before : (ps : List (List ℕ)) (p : List ℕ) (n : ℕ) → (n + 1 ≡ length ps → ⊥) → exchanged (ps ++ p ∷ []) n ≡ exchanged ps n ++ p ∷ []
exchange_before [] p zero other = refl
exchange_before [] p (suc n) other = refl
exchange_before (a ∷ []) p zero other = absurd (other (omega arith))
exchange_before (a ∷ b ∷ ps) p zero other = refl
exchange_before (a ∷ ps) p (suc n) other = ap (λ (rest : List (List ℕ)). a ∷ rest) (exchange_before ps p n (λ same. other (omega (arith, same))))

-- the last two packets are those
exchange_last : (front : List (List ℕ)) (q p : List ℕ) → exchanged (front ++ q ∷ p ∷ []) (length front) ≡ front ++ p ∷ q ∷ []
exchange_last [] q p = refl
exchange_last (a ∷ front) q p = ap (λ (rest : List (List ℕ)). a ∷ rest) (exchange_last front q p)

-- there are not both
exchange_past : (ps : List (List ℕ)) (n : ℕ) → length ps ≤ n + 1 → exchanged ps n ≡ ps
exchange_past [] n past = refl
exchange_past (a ∷ []) zero past = refl
exchange_past (a ∷ b ∷ ps) zero past = absurd (omega (arith, past))
exchange_past (a ∷ ps) (suc n) past = ap (λ (rest : List (List ℕ)). a ∷ rest) (exchange_past ps n (omega (arith, past)))

exchanges_past : (gap least : ℕ) (ns : List ℕ) (ps : List (List ℕ)) → rises gap least ns ≡ true → length ps ≤ least + 1 → fold exchanged ps ns ≡ ps
exchanges_past gap least [] ps up past = refl
exchanges_past gap least (n ∷ ns) ps up past =
    let (first, others) = and_parts (nat_le least n) (rises gap (n + gap) ns) up in
    let below : least ≤ n = leb-true least n first in
    let alone : exchanged ps n ≡ ps = exchange_past ps n (omega (arith, past, below)) in
    ap (λ (qs : List (List ℕ)). fold exchanged qs ns) alone
    ∙ exchanges_past gap (n + gap) ns ps others (omega (arith, past, below))

in_first : (n : ℕ) (ns : List ℕ) (m : ℕ) → n ≡ m → is_in (n ∷ ns) m ≡ true
in_first n ns m same = rw (eq-eqb n m same) refl

in_later : (n : ℕ) (ns : List ℕ) (m : ℕ) → (n ≡ m → ⊥) → is_in (n ∷ ns) m ≡ is_in ns m
in_later n ns m other = rw (ne_eqb n m other) refl

-- the last packet changes places with none before it
pub exchanges_more : (ns : List ℕ) (ps : List (List ℕ)) (p : List ℕ) → ((n : ℕ) → n + 1 ≡ length ps → is_in ns n ≡ false)
    → fold exchanged (ps ++ p ∷ []) ns ≡ fold exchanged ps ns ++ p ∷ []
exchanges_more [] ps p none = refl
exchanges_more (n ∷ ns) ps p none =
    let other : n + 1 ≡ length ps → ⊥ = λ same. true≢false (sym (in_first n ns n refl) ∙ none n same) in
    let kept : length (exchanged ps n) ≡ length ps = length-exchanged ps n in
    ap (λ (qs : List (List ℕ)). fold exchanged qs ns) (exchange_before ps p n other)
    ∙ exchanges_more ns (exchanged ps n) p (λ m last.
    let same : m + 1 ≡ length ps = last ∙ kept in
    let apart : n ≡ m → ⊥ = λ equal. other (omega (arith, equal, same)) in
    sym (in_later n ns m apart) ∙ none m same)

-- a number that is one of those is no less than the least
in_least : (gap least : ℕ) (ns : List ℕ) (m : ℕ) → rises gap least ns ≡ true → is_in ns m ≡ true → least ≤ m
in_least gap least [] m up inside = absurd (true≢false (sym inside))
in_least gap least (n ∷ ns) m up inside =
    let (first, others) = and_parts (nat_le least n) (rises gap (n + gap) ns) up in
    let below : least ≤ n = leb-true least n first in
    ⊎_elim (λ (less : m < n).
    let later : is_in ns m ≡ true = sym (in_later n ns m (λ same. omega (arith, same, less))) ∙ inside in
    let above : n + gap ≤ m = in_least gap (n + gap) ns m others later in
    omega (arith, above, less))
    (λ (most : n ≤ m). omega (arith, below, most))
    (cases_lt m n)

two_more : (front : List (List ℕ)) (q p : List ℕ) → front ++ q ∷ p ∷ [] ≡ (front ++ q ∷ []) ++ p ∷ []
two_more front q p = sym (append_assoc front (q ∷ []) (p ∷ []))

length_one_more : (front : List (List ℕ)) (q : List ℕ) → length (front ++ q ∷ []) ≡ length front + 1
length_one_more front q = length-append front (q ∷ [])

exchange_before_two : (front : List (List ℕ)) (q p : List ℕ) (n : ℕ) → n + 2 ≤ length front → exchanged (front ++ q ∷ p ∷ []) n ≡ exchanged front n ++ q ∷ p ∷ []
exchange_before_two front q p n before =
    ap (λ (qs : List (List ℕ)). exchanged qs n) (two_more front q p)
    ∙ exchange_before (front ++ q ∷ []) p n (λ same. omega (arith, same, length_one_more front q, before))
    ∙ ap (λ (qs : List (List ℕ)). qs ++ p ∷ []) (exchange_before front q n (λ same. omega (arith, same, before)))
    ∙ sym (two_more (exchanged front n) q p)

length_two_more : (front : List (List ℕ)) (p q : List ℕ) → length (front ++ p ∷ q ∷ []) ≡ length front + 2
length_two_more front p q = length-append front (p ∷ q ∷ [])

-- the last two packets change places
pub exchanges_last : (least : ℕ) (ns : List ℕ) (front : List (List ℕ)) (q p : List ℕ) → rises 2 least ns ≡ true → is_in ns (length front) ≡ true
    → fold exchanged (front ++ q ∷ p ∷ []) ns ≡ fold exchanged front ns ++ p ∷ q ∷ []
exchanges_last least [] front q p up inside = absurd (true≢false (sym inside))
exchanges_last least (n ∷ ns) front q p up inside =
    let (first, others) = and_parts (nat_le least n) (rises 2 (n + 2) ns) up in
    let later : (n ≡ length front → ⊥) → is_in ns (length front) ≡ true = λ other. sym (in_later n ns (length front) other) ∙ inside in
    let before : n < length front → fold exchanged (front ++ q ∷ p ∷ []) (n ∷ ns) ≡ fold exchanged front (n ∷ ns) ++ p ∷ q ∷ [] = λ less.
    let found = later (λ same. omega (arith, same, less)) in
    let apart : n + 2 ≤ length front = in_least 2 (n + 2) ns (length front) others found in
    ap (λ (qs : List (List ℕ)). fold exchanged qs ns) (exchange_before_two front q p n apart)
    ∙ exchanges_last (n + 2) ns (exchanged front n) q p others (ap (is_in ns) (length-exchanged front n) ∙ found) in
    let at : n ≡ length front → fold exchanged (front ++ q ∷ p ∷ []) (n ∷ ns) ≡ fold exchanged front (n ∷ ns) ++ p ∷ q ∷ [] = λ same.
    let whole : fold exchanged (front ++ q ∷ p ∷ []) (n ∷ ns) ≡ front ++ p ∷ q ∷ [] =
    ap (λ (m : ℕ). fold exchanged (exchanged (front ++ q ∷ p ∷ []) m) ns) same
    ∙ ap (λ (qs : List (List ℕ)). fold exchanged qs ns) (exchange_last front q p)
    ∙ exchanges_past 2 (n + 2) ns (front ++ p ∷ q ∷ []) others (omega (arith, length_two_more front p q, same)) in
    let part : fold exchanged front (n ∷ ns) ≡ front =
    ap (λ (qs : List (List ℕ)). fold exchanged qs ns) (exchange_past front n (omega (arith, same)))
    ∙ exchanges_past 2 (n + 2) ns front others (omega (arith, same)) in
    whole ∙ ap (λ (qs : List (List ℕ)). qs ++ p ∷ q ∷ []) (sym part) in
    let after : length front < n → fold exchanged (front ++ q ∷ p ∷ []) (n ∷ ns) ≡ fold exchanged front (n ∷ ns) ++ p ∷ q ∷ [] = λ less.
    let found = later (λ same. omega (arith, same, less)) in
    let above : n + 2 ≤ length front = in_least 2 (n + 2) ns (length front) others found in
    absurd (omega (arith, above, less)) in
    ⊎_elim before (λ (high : length front ≤ n). ⊎_elim after (λ (low : n ≤ length front). at (omega (arith, high, low))) (cases_lt (length front) n)) (cases_lt n (length front))

-- two numbers that are in the list lie apart
apart : (gap least : ℕ) (ns : List ℕ) (n k : ℕ) → rises gap least ns ≡ true → is_in ns n ≡ true → is_in ns k ≡ true → n < k → n + gap ≤ k
apart gap least [] n k up in_n in_k less = absurd (true≢false (sym in_n))
apart gap least (m ∷ ns) n k up in_n in_k less =
    let (first, others) = and_parts (nat_le least m) (rises gap (m + gap) ns) up in
    let later_k : (m ≡ k → ⊥) → is_in ns k ≡ true = λ other. sym (in_later m ns k other) ∙ in_k in
    ⊎_elim (λ (e : (m == n) ≡ true).
    let same : m ≡ n = eqb-true m n e in
    let above : m + gap ≤ k = in_least gap (m + gap) ns k others (later_k (λ equal. omega (arith, equal, same, less))) in
    omega (arith, same, above))
    (λ (e : (m == n) ≡ false).
    let found : is_in ns n ≡ true = sym (ap (λ b. b || is_in ns n) e) ∙ in_n in
    let above : m + gap ≤ n = in_least gap (m + gap) ns n others found in
    apart gap (m + gap) ns n k others found (later_k (λ equal. omega (arith, equal, above, less))) less)
    (cases_Bool (m == n))

-- a packet that changes places with the next one does not with the one before it
pub none_before : (least : ℕ) (ns : List ℕ) (k : ℕ) → rises 2 least ns ≡ true → is_in ns k ≡ true → (n : ℕ) → n + 1 ≡ k → is_in ns n ≡ false
none_before least ns k up inside n before =
    ⊎_elim (λ (found : is_in ns n ≡ true).
    let far : n + 2 ≤ k = apart 2 least ns n k up found inside (omega (arith, before)) in
    absurd (omega (arith, far, before)))
    (λ (other : is_in ns n ≡ false). other)
    (cases_Bool (is_in ns n))

-- the packets that were placed, where the last one may change places with the next one
pub length-placed : (script : ScriptData) (ps : List (List ℕ)) → length (placed script ps) ≡ length ps
length-placed script ps = length-exchanges script.swaps (fold with_change ps script.changes) ∙ length-changes script.changes ps

-- one more packet, where the last one stays at its place
pub placed_more : (script : ScriptData) (ps : List (List ℕ)) (p : List ℕ) → ((n : ℕ) → n + 1 ≡ length ps → is_in script.swaps n ≡ false)
    → placed script (ps ++ p ∷ []) ≡ placed script ps ++ changed script.changes (length ps) p ∷ []
placed_more script ps p none =
    let kept = length-changes script.changes ps in
    ap (λ (qs : List (List ℕ)). fold exchanged qs script.swaps) (changes_more script.changes ps p)
    ∙ exchanges_more script.swaps (fold with_change ps script.changes) (changed script.changes (length ps) p) (λ n last. none n (last ∙ kept))

split_last : (ps : List (List ℕ)) (k : ℕ) → length ps ≡ k + 1 → (front : List (List ℕ)) × (q : List ℕ) × (ps ≡ front ++ q ∷ []) × (length front ≡ k)
split_last [] k whole = absurd (omega (arith, whole))
split_last (q ∷ []) k whole = let none : 0 ≡ k = omega (arith, whole) in ([], q, refl, none)
split_last (a ∷ b ∷ ps) zero whole = absurd (omega (arith, whole))
split_last (a ∷ b ∷ ps) (suc k) whole =
    let (front, q, split, long) = split_last (b ∷ ps) k (omega (arith, whole)) in
    (a ∷ front, q, ap (λ (rest : List (List ℕ)). a ∷ rest) split, ap suc long)

-- The packets that were placed where the last one changes places with the next one, and what they are with the next one.
pub record Swaps (script : ScriptData) (ps : List (List ℕ)) (p : List ℕ) (k : ℕ) : Type 0 where
  pub front : List (List ℕ)
  pub last : List ℕ
  pub before : placed script ps ≡ front ++ last ∷ []
  pub after : placed script (ps ++ p ∷ []) ≡ front ++ changed script.changes (length ps) p ∷ last ∷ []
  pub long : length front ≡ k

pub placed_swap : (script : ScriptData) (ps : List (List ℕ)) (p : List ℕ) (k : ℕ) → rises 2 0 script.swaps ≡ true → length ps ≡ k + 1 → is_in script.swaps k ≡ true → Swaps script ps p k
placed_swap script ps p k up whole inside =
    let qs = fold with_change ps script.changes in
    let now = changed script.changes (length ps) p in
    let (front, q, split, long) = split_last qs k (length-changes script.changes ps ∙ whole) in
    let at : is_in script.swaps (length front) ≡ true = ap (is_in script.swaps) long ∙ inside in
    let stay : fold exchanged (front ++ q ∷ []) script.swaps ≡ fold exchanged front script.swaps ++ q ∷ [] =
    exchanges_more script.swaps front q (λ n last. none_before 0 script.swaps (length front) up at n last) in
    record {
      front = fold exchanged front script.swaps;
      last = q;
      before = ap (λ (xs : List (List ℕ)). fold exchanged xs script.swaps) split ∙ stay;
      after =
          ap (λ (xs : List (List ℕ)). fold exchanged xs script.swaps)
          (changes_more script.changes ps p
          ∙ ap (λ (xs : List (List ℕ)). xs ++ now ∷ []) split
          ∙ append_assoc front (q ∷ []) (now ∷ []))
          ∙ exchanges_last 0 script.swaps front q now up at;
      long = length-exchanges script.swaps front ∙ long;
    }
