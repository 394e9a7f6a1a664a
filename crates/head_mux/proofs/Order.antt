-- What one turn more sends.
use Rattle.std.proofs.Common.{zero, suc, ◌≡◌, ℕ, ◌+◌, ◌%◌, ◌<◌, ◌≤◌, inl, inr, ◌==◌, if◌then◌else◌, Bool, true, false, drop, List, [], ◌∷◌, ◌++◌, length, get_or, Option, refl, sym, ap, subst, ◌∙◌, arith, add-one, append_assoc, append-nil, length-append, get_or-set_other, get_or-set_same}
use Rattle.std.specs.Prelude.{◌-◌, slice_set}
use Rattle.std.specs.List.{concat, range_with_len}
use Rattle.std.proofs.lemmas.Bool.Decides.{eqb_tells}
use Rattle.std.proofs.lemmas.List.{length-set, get_or_default}
use Rattle.std.proofs.lemmas.List.Folds.{concat-append}
use Rattle.std.proofs.lemmas.List.FromFn.{length-range_with_len}
use Rattle.ssu_io.specs.Bytes.{GainsPrefix}
use Rattle.ssu_io.specs.SinkBuffer.{MovesOn}
use Rattle.ssu_io.proofs.BufferLemmas.{MovesOn_none, MovesOn_join, MovesOn_failed, GainsPrefix_longer}
use Rattle.ts_section.specs.TimedSection.{TimedSection}
use Rattle.ts_section.specs.Cut.{payloads, payload_count, packets_with, with_pointer, cut_packets, next_counter}
use Rattle.head_mux.specs.Sent.{section_at, next_index, dues_before, section_of_turn, counter_before, packets_of_turn, sent}

pub range-more : (a n m : ℕ) → a + n ≡ m → range_with_len a (suc n) ≡ range_with_len a n ++ m ∷ []
range-more a zero m e = let same : a ≡ m = omega arith in ap (λ (x : ℕ). x ∷ []) same
range-more a (suc n) m e = ap (λ (v : List ℕ). a ∷ v) (range-more (a + 1) n m (omega arith))

pub length_dues : (list : List TimedSection) (t : ℕ) → length (dues_before list t) ≡ length list
unfolding dues_before
length_dues list zero = length-range_with_len 0 (length list)
length_dues list (suc t) = length-set (dues_before list t) (next_index (dues_before list t)) (t + (section_of_turn list t).period) ∙ length_dues list t

pub dues_next : (list : List TimedSection) (t : ℕ)
    → dues_before list (t + 1) ≡ slice_set (dues_before list t) (next_index (dues_before list t)) (t + (section_of_turn list t).period)
unfolding dues_before
dues_next list t = rw add-one refl

pub sent_next : (list : List TimedSection) (t : ℕ) → sent list (t + 1) ≡ sent list t ++ packets_of_turn list t
unfolding sent
sent_next list t = rw add-one refl

-- what is chosen by a test of two numbers
chosen : (a p x y z : ℕ) → (a ≡ p → z ≡ x) → ((a ≡ p → ⊥) → z ≡ y) → z ≡ (if a == p then x else y)
chosen a p x y z f g = elim (eqb_tells a p) [ inl h ↦ rw (h.0) (f h.1) | inr h ↦ rw (h.0) (g h.1) ]

counter_next : (list : List TimedSection) (t pid : ℕ)
    → counter_before list (t + 1) pid
    ≡ (if (section_of_turn list t).pid == pid then next_counter (section_of_turn list t).bytes (counter_before list t pid) else counter_before list t pid)
unfolding counter_before
counter_next list t pid = rw add-one refl

-- the counters of all PIDs, as they stand before a turn
abbrev pub Counted : List TimedSection → ℕ → List ℕ → Type 0
Counted list t counters = (pid : ℕ) → pid < 8192 → get_or counters pid 0 ≡ counter_before list t pid

below_chosen : (b : ℕ) (p q x y : ℕ) → x < b → y < b → (if p == q then x else y) < b
below_chosen b p q x y h k = elim (eqb_tells p q) [ inl e ↦ rw (e.0) h | inr e ↦ rw (e.0) k ]

pub counter_below : (list : List TimedSection) (t pid : ℕ) → counter_before list t pid < 16
unfolding counter_before
counter_below list zero pid = omega arith
counter_below list (suc t) pid = below_chosen 16 (section_of_turn list t).pid pid _ _ (omega arith) (counter_below list t pid)

-- The section that a turn sends, out of the due numbers and the counters before it.
pub packets_are : (list : List TimedSection) (t : ℕ) (dues counters : List ℕ) → dues ≡ dues_before list t → Counted list t counters
    → (section_at list (next_index dues)).pid < 8192
    → cut_packets (section_at list (next_index dues)).bytes (section_at list (next_index dues)).pid (get_or counters (section_at list (next_index dues)).pid 0)
    ≡ packets_of_turn list t
packets_are list t dues counters e counted =
    let P : List ℕ → Type 0 = λ d. (section_at list (next_index d)).pid < 8192
    → cut_packets (section_at list (next_index d)).bytes (section_at list (next_index d)).pid (get_or counters (section_at list (next_index d)).pid 0)
    ≡ packets_of_turn list t in
    subst P (sym e) (λ h. ap (λ (n : ℕ). cut_packets (section_of_turn list t).bytes (section_of_turn list t).pid n) (counted (section_of_turn list t).pid h))

pub dues_are : (list : List TimedSection) (t : ℕ) (dues later : List ℕ) → dues ≡ dues_before list t
    → later ≡ slice_set dues (next_index dues) (t + (section_at list (next_index dues)).period) → later ≡ dues_before list (t + 1)
dues_are list t dues later e told =
    told ∙ ap (λ (d : List ℕ). slice_set d (next_index d) (t + (section_at list (next_index d)).period)) e ∙ sym (dues_next list t)

counted_next : (list : List TimedSection) (t : ℕ) (counters : List ℕ) → Counted list t counters → length counters ≡ 8192 → (section_of_turn list t).pid < 8192
    → Counted list (t + 1)
    (slice_set counters (section_of_turn list t).pid (next_counter (section_of_turn list t).bytes (get_or counters (section_of_turn list t).pid 0)))
counted_next list t counters counted len bound pid h =
    let s = section_of_turn list t in
    let inside : s.pid < length counters = omega arith in
    chosen s.pid pid (next_counter s.bytes (counter_before list t pid)) (counter_before list t pid) _
    (λ e. let P : ℕ → Type 0 = λ p. get_or (slice_set counters s.pid (next_counter s.bytes (get_or counters s.pid 0))) p 0 ≡ next_counter s.bytes (counter_before list t p) in
    subst P e (get_or-set_same counters s.pid _ 0 inside ∙ ap (λ (n : ℕ). next_counter s.bytes n) (counted s.pid bound)))
    (λ apart. let ne : pid ≡ s.pid → ⊥ = λ e. apart (sym e) in get_or-set_other counters s.pid pid _ 0 ne ∙ counted pid h)
    ∙ sym (counter_next list t pid)

pub counted_are : (list : List TimedSection) (t : ℕ) (dues counters later : List ℕ) → dues ≡ dues_before list t → Counted list t counters → length counters ≡ 8192
    → (section_at list (next_index dues)).pid < 8192
    → later ≡ slice_set counters (section_at list (next_index dues)).pid (next_counter (section_at list (next_index dues)).bytes (get_or counters (section_at list (next_index dues)).pid 0))
    → Counted list (t + 1) later
counted_are list t dues counters later e counted len =
    let P : List ℕ → Type 0 = λ d. (section_at list (next_index d)).pid < 8192
    → later ≡ slice_set counters (section_at list (next_index d)).pid (next_counter (section_at list (next_index d)).bytes (get_or counters (section_at list (next_index d)).pid 0))
    → Counted list (t + 1) later in
    let Q : List ℕ → Type 0 = λ v. Counted list (t + 1) v in
    subst P (sym e) (λ bound told. subst Q (sym told) (counted_next list t counters counted len bound))

pub count_are : (list : List TimedSection) (t count n : ℕ) (packets : List (List ℕ)) → packets ≡ packets_of_turn list t
    → count ≡ length (sent list t) → n ≡ length packets → count + n ≡ length (sent list (t + 1))
count_are list t count n packets e before more =
    let all = ap (λ (v : List (List ℕ)). length v) (sent_next list t) in
    let sum = length-append (sent list t) (packets_of_turn list t) in
    let same = ap (λ (v : List (List ℕ)). length v) e in
    omega arith

-- the bytes of one turn more
bytes_next : (list : List TimedSection) (t : ℕ) → concat (sent list t) ++ concat (packets_of_turn list t) ≡ concat (sent list (t + 1))
bytes_next list t = sym (ap concat (sent_next list t) ∙ concat-append (sent list t) (packets_of_turn list t))

pub turn_moved : (first second third : Option (List ℕ)) (list : List TimedSection) (t : ℕ) (waiting more : List ℕ) (packets : List (List ℕ)) → packets ≡ packets_of_turn list t
    → MovesOn first second [] (concat (sent list t)) waiting → MovesOn second third waiting (concat packets) more → MovesOn first third [] (concat (sent list (t + 1))) more
turn_moved first second third list t waiting more packets e m n =
    let P : List ℕ → Type 0 = λ bytes. MovesOn first third [] bytes more in
    subst P (ap (λ (v : List (List ℕ)). concat (sent list t) ++ concat v) e ∙ bytes_next list t)
    (MovesOn_join first second third [] (concat (sent list t)) waiting (concat packets) more m n)

-- what was sent stands before what is sent later
sent_before : (list : List TimedSection) (t n : ℕ) → (rest : List (List ℕ)) × (sent list (n + t) ≡ sent list t ++ rest)
unfolding sent
sent_before list t zero = ([], ap (sent list) (let e : 0 + t ≡ t = omega arith in e) ∙ sym (append-nil (sent list t)))
sent_before list t (suc n) =
    let before = sent_before list t n in (
      before.0 ++ packets_of_turn list (n + t),
      ap (sent list) (let e : suc n + t ≡ suc (n + t) = omega arith in e)
          ∙ ap (λ (v : List (List ℕ)). v ++ packets_of_turn list (n + t)) before.1
          ∙ append_assoc (sent list t) before.0 (packets_of_turn list (n + t)),
    )

pub sent_first : (list : List TimedSection) (t turns : ℕ) → t ≤ turns → (rest : List (List ℕ)) × (sent list turns ≡ sent list t ++ rest)
sent_first list t turns h =
    let e : turns ≡ (turns - t) + t = omega arith in
    let before = sent_before list t (turns - t) in
    (before.0, ap (sent list) e ∙ before.1)

pub turn_failed : (first second third : Option (List ℕ)) (list : List TimedSection) (t turns : ℕ) (waiting : List ℕ) (packets : List (List ℕ)) → t < turns → packets ≡ packets_of_turn list t
    → MovesOn first second [] (concat (sent list t)) waiting → GainsPrefix second third (waiting ++ concat packets) → GainsPrefix first third (concat (sent list turns))
turn_failed first second third list t turns waiting packets h e m p =
    let P : List ℕ → Type 0 = λ bytes. GainsPrefix first third bytes in
    let later = sent_first list (t + 1) turns (omega arith) in
    subst P
    (ap (λ (v : List (List ℕ)). (concat (sent list t) ++ concat v) ++ concat later.0) e
    ∙ ap (λ (v : List ℕ). v ++ concat later.0) (bytes_next list t)
    ∙ sym (ap concat later.1 ∙ concat-append (sent list (t + 1)) later.0))
    (GainsPrefix_longer first third (concat (sent list t) ++ concat packets) (concat later.0)
    (MovesOn_failed first second third [] (concat (sent list t)) waiting (concat packets) m p))

pub length_payloads : (n : ℕ) (bytes : List ℕ) → length (payloads n bytes) ≡ n
unfolding payloads
length_payloads zero bytes = refl
length_payloads (suc n) bytes = ap suc (length_payloads n (drop 184 bytes))

length_with : (pid counter : ℕ) (start : Bool) (all : List (List ℕ)) → length (packets_with pid counter start all) ≡ length all
unfolding packets_with
length_with pid counter start [] = refl
length_with pid counter start (payload ∷ later) = ap suc (length_with pid ((counter + 1) % 16) false later)

pub length_cut : (section : List ℕ) (pid counter : ℕ) → length (cut_packets section pid counter) ≡ payload_count (with_pointer section)
unfolding cut_packets
length_cut section pid counter =
    length_with pid counter true (payloads (payload_count (with_pointer section)) (with_pointer section))
    ∙ length_payloads (payload_count (with_pointer section)) (with_pointer section)

-- before the first turn
pub moved_none : (contents : Option (List ℕ)) (list : List TimedSection) (waiting : List ℕ) → waiting ≡ [] → MovesOn contents contents [] (concat (sent list 0)) waiting
unfolding sent
moved_none contents list waiting e = let P : List ℕ → Type 0 = λ v. MovesOn contents contents [] [] v in subst P (sym e) (MovesOn_none contents [])

pub count_none : (list : List TimedSection) → 0 ≡ length (sent list 0)
unfolding sent
count_none list = refl

pub dues_none : (list : List TimedSection) (dues : List ℕ) → dues ≡ range_with_len 0 (length list) → dues ≡ dues_before list 0
unfolding dues_before
dues_none list dues e = e

pub counted_none : (list : List TimedSection) (counters : List ℕ) → ((pid : ℕ) → get_or counters pid 0 ≡ 0) → Counted list 0 counters
unfolding counter_before
counted_none list counters f pid h = f pid

pub counted_below : (list : List TimedSection) (t : ℕ) (counters : List ℕ) → Counted list t counters → (pid : ℕ) → pid < 8192 → get_or counters pid 0 < 16
counted_below list t counters counted pid h =
    let P : ℕ → Type 0 = λ n. n < 16 in
    subst P (sym (counted pid h)) (counter_below list t pid)

-- a section that was read at an index, at any default
pub section_read : (list : List TimedSection) (index next : ℕ) (section : TimedSection) → section ≡ get_or list index section → index < length list → index ≡ next → section ≡ section_at list next
section_read list index next section e h k = e ∙ get_or_default list index section _ h ∙ ap (section_at list) k
