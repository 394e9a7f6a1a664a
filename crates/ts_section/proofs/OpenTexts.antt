-- What the next packet does to the open texts of a span, and which sections it completes.
use Rattle.std.proofs.Common.{◌≡◌, ℕ, ◌≤◌, Bool, true, false, cond, List, [], ◌∷◌, ◌++◌, length, map, get_or, refl, ap, sym, ◌∙◌, arith, not, ◌&&◌, ◌||◌, Option, Some, None, append_assoc, length-append, leb, inl, inr}
use Rattle.std.specs.List.{filter, filter_map, cons_option}
use Rattle.std.proofs.lemmas.List.{append-nil, map-append, get_or_append_left}
use Rattle.std.proofs.lemmas.List.Elements.{filter-append, filter_map-append}
use Rattle.std.proofs.lemmas.Bool.{le-leb, and_from, cases_Bool}
use Rattle.ts_packet.specs.Packet.{TransportPacket}
use Rattle.section_form.specs.Section.{section_end, is_right}
use Rattle.ts_section.specs.declared.step.Step.TheVariants.{Repeat, Next, Lost}
use Rattle.ts_section.specs.Sections.{repeats, counts_on, before_pointed, text_after, has_section, whole_section, starts_behind, starts_in, complete_in, newly_whole, right_in}
use Rattle.ts_section.specs.Steps.{step_to, last_from, goes_on, open_texts, unfinished, right_of, right_after, open_after}
use Rattle.ts_section.proofs.Pieces.{has_section-fits, right_of-nil, right_of-none, right_of-append}

-- The last packet of p and those after it.
abbrev pub last_of : TransportPacket → List TransportPacket → TransportPacket
last_of p [] = p
last_of p (q ∷ later) = last_of q later

last_from-some : (p : TransportPacket) (later : List TransportPacket) → last_from (Some p) later ≡ Some (last_of p later)
last_from-some p [] = refl
last_from-some p (q ∷ later) = last_from-some q later

-- What packet y adds to a text that goes on at the end of the packet before it.
abbrev pub gives : Option TransportPacket → TransportPacket → List ℕ
gives None y = []
gives (Some p) y = text_after p (y ∷ [])

-- Whether a packet after y may still add to such a text.
abbrev pub passes : Option TransportPacket → TransportPacket → Bool
passes None y = false
passes (Some p) y = repeats p y || (counts_on p y && not y.start)

and_true : (b : Bool) → (b && true) ≡ b
and_true true = refl
and_true false = refl

and_false : (b : Bool) → (b && false) ≡ false
and_false true = refl
and_false false = refl

and_assoc : (a b c : Bool) → (a && (b && c)) ≡ ((a && b) && c)
and_assoc true b c = refl
and_assoc false b c = refl

map_append-nil : (texts : List (List ℕ)) → map (λ t. t ++ []) texts ≡ texts
map_append-nil [] = refl
map_append-nil (t ∷ texts) = rw (append-nil t) (ap (λ ts. t ∷ ts) (map_append-nil texts))

push_step : (r n s g : Bool) (front payload t u x : List ℕ) → u ≡ t ++ cond g x []
    → cond r u (cond n (cond s front (payload ++ u)) []) ≡ cond r t (cond n (cond s front (payload ++ t)) []) ++ cond ((r || (n && not s)) && g) x []
push_step true n s g front payload t u x e = e
push_step false true true g front payload t u x e = sym (append-nil front)
push_step false true false g front payload t u x e = ap (λ v. payload ++ v) e ∙ sym (append_assoc payload t (cond g x []))
push_step false false s g front payload t u x e = refl

-- one more packet adds to a text that goes on
pub text_after-push : (p : TransportPacket) (later : List TransportPacket) (y : TransportPacket)
    → text_after p (later ++ y ∷ []) ≡ text_after p later ++ cond (goes_on p later) (text_after (last_of p later) (y ∷ [])) []
unfolding text_after goes_on
text_after-push p [] y = refl
text_after-push p (q ∷ later) y =
    push_step (repeats p q) (counts_on p q) q.start (goes_on q later) (before_pointed q) q.payload
    (text_after q later) (text_after q (later ++ y ∷ [])) (text_after (last_of q later) (y ∷ [])) (text_after-push q later y)

pub goes_on-push : (p : TransportPacket) (later : List TransportPacket) (y : TransportPacket)
    → goes_on p (later ++ y ∷ []) ≡ (goes_on p later && passes (Some (last_of p later)) y)
unfolding goes_on
goes_on-push p [] y = and_true _
goes_on-push p (q ∷ later) y =
    ap (λ g. (repeats p q || (counts_on p q && not q.start)) && g) (goes_on-push q later y)
    ∙ and_assoc (repeats p q || (counts_on p q && not q.start)) (goes_on q later) (passes (Some (last_of q later)) y)

-- a text that has a whole section has it however it goes on
pub has_section-append : (text more : List ℕ) → has_section text ≡ true → has_section (text ++ more) ≡ true
unfolding has_section
has_section-append text more h =
    let fits = has_section-fits text h in
    let one : get_or (text ++ more) 1 0 ≡ get_or text 1 0 = get_or_append_left text more 0 1 (omega arith) in
    let two : get_or (text ++ more) 2 0 ≡ get_or text 2 0 = get_or_append_left text more 0 2 (omega arith) in
    let end : section_end (text ++ more) ≡ section_end text = rw (one, two) refl in
    let long = length-append text more in
    let head : 3 ≤ length (text ++ more) = omega arith in
    let room : section_end text ≤ length (text ++ more) = omega arith in
    and_from (leb 3 (length (text ++ more))) (leb (section_end (text ++ more)) (length (text ++ more)))
    (le-leb 3 (length (text ++ more)) head)
    (le-leb (section_end (text ++ more)) (length (text ++ more)) (rw end room))

newly_step : (f : List ℕ → List ℕ) (h : Bool) (w : Option (List ℕ)) (t : List ℕ) (found : List (List ℕ)) (rest : List (List ℕ))
    → found ≡ filter_map whole_section (map f rest) → w ≡ whole_section (f t)
    → cons_option (cond h None w) found ≡ filter_map whole_section (map f (cond (not h) (t ∷ rest) rest))
newly_step f true w t found rest e k = e
newly_step f false w t found rest e k = ap (λ v. cons_option v found) k ∙ ap (λ v. cons_option (whole_section (f t)) v) e

not_newly : (h : Bool) (s : List ℕ) → cond h None (cond h (Some s) None) ≡ None
not_newly true s = refl
not_newly false s = refl

newly_going : (a x b : List ℕ) (rests : List (List ℕ)) → b ≡ a ++ x
    → filter_map (λ rest. newly_whole (rest ++ a) (rest ++ b)) rests
    ≡ filter_map whole_section (map (λ t. t ++ x) (unfinished (map (λ rest. rest ++ a) rests)))
newly_going a x b [] e = refl
newly_going a x b (r ∷ rests) e =
    newly_step (λ t. t ++ x) (has_section (r ++ a)) (whole_section (r ++ b)) (r ++ a)
    (filter_map (λ rest. newly_whole (rest ++ a) (rest ++ b)) rests) (unfinished (map (λ rest. rest ++ a) rests))
    (newly_going a x b rests e)
    (ap whole_section (ap (λ v. r ++ v) e ∙ sym (append_assoc r a x)))

newly_stopped : (a b : List ℕ) (rests : List (List ℕ)) → b ≡ a → filter_map (λ rest. newly_whole (rest ++ a) (rest ++ b)) rests ≡ []
newly_stopped a b [] e = refl
newly_stopped a b (r ∷ rests) e =
    rw (e, not_newly (has_section (r ++ a))) (newly_stopped a b rests e)

newly_all : (g : Bool) (a x b : List ℕ) (rests : List (List ℕ)) → b ≡ a ++ cond g x []
    → filter_map (λ rest. newly_whole (rest ++ a) (rest ++ b)) rests
    ≡ filter_map whole_section (map (λ t. t ++ x) (cond g (unfinished (map (λ rest. rest ++ a) rests)) []))
newly_all true a x b rests e = newly_going a x b rests e
newly_all false a x b rests e = newly_stopped a b rests (e ∙ append-nil a)

join : (f : List ℕ → List ℕ) (found more : List (List ℕ)) (first others last : List (List ℕ))
    → found ≡ filter_map whole_section (map f first) → more ≡ filter_map whole_section (map f others) ++ last
    → found ++ more ≡ filter_map whole_section (map f (first ++ others)) ++ last
join f found more first others last e k =
    rw (map-append f first others, filter_map-append whole_section (map f first) (map f others), append_assoc) (cc (e, k))

gives-last : (p : TransportPacket) (later : List TransportPacket) (y : TransportPacket)
    → text_after p (later ++ y ∷ []) ≡ text_after p later ++ cond (goes_on p later) (gives (last_from (Some p) later) y) []
gives-last p later y =
    text_after-push p later y
    ∙ ap (λ l. text_after p later ++ cond (goes_on p later) (gives l y) []) (sym (last_from-some p later))

-- The sections that y completes: of the open texts with what y adds, and of the starts of y.
pub complete_in-open : (before : Option TransportPacket) (packets : List TransportPacket) (y : TransportPacket)
    → complete_in before packets y
    ≡ filter_map whole_section (map (λ t. t ++ gives (last_from before packets) y) (open_texts before packets))
    ++ filter_map whole_section (starts_in (last_from before packets) y)
unfolding complete_in open_texts
complete_in-open before [] y = refl
complete_in-open before (p ∷ later) y =
    let x = gives (last_from (Some p) later) y in
    join (λ t. t ++ x) _ _ (cond (goes_on p later) (unfinished (map (λ rest. rest ++ text_after p later) (starts_in before p))) []) (open_texts (Some p) later) (filter_map whole_section (starts_in (last_from (Some p) later) y))
    (newly_all (goes_on p later) (text_after p later) x (text_after p (later ++ y ∷ [])) (starts_in before p) (gives-last p later y))
    (complete_in-open (Some p) later y)

unfinished-append : (xs ys : List (List ℕ)) → unfinished (xs ++ ys) ≡ unfinished xs ++ unfinished ys
unfinished-append xs ys = filter-append (λ text. not (has_section text)) xs ys

grown_step : (f : List ℕ → List ℕ) (h : Bool) (t u : List ℕ) (found rest : List (List ℕ))
    → found ≡ unfinished (map f rest) → u ≡ f t → (h ≡ true → has_section u ≡ true)
    → cond (not (has_section u)) (u ∷ found) found ≡ unfinished (map f (cond (not h) (t ∷ rest) rest))
grown_step f true t u found rest e k m = rw (m refl) e
grown_step f false t u found rest e k m = rw (e, k) refl

grown : (a x b : List ℕ) (rests : List (List ℕ)) → b ≡ a ++ x
    → unfinished (map (λ rest. rest ++ b) rests) ≡ unfinished (map (λ t. t ++ x) (unfinished (map (λ rest. rest ++ a) rests)))
grown a x b [] e = refl
grown a x b (r ∷ rests) e =
    let k : r ++ b ≡ (r ++ a) ++ x = ap (λ v. r ++ v) e ∙ sym (append_assoc r a x) in
    grown_step (λ t. t ++ x) (has_section (r ++ a)) (r ++ a) (r ++ b) (unfinished (map (λ rest. rest ++ b) rests)) (unfinished (map (λ rest. rest ++ a) rests))
    (grown a x b rests e) k (λ h. rw k (has_section-append (r ++ a) x h))

cond_none : (b : Bool) → cond b (unfinished []) [] ≡ []
cond_none true = refl
cond_none false = refl

open_step : (g passed : Bool) (a x b : List ℕ) (rests others last : List (List ℕ)) → b ≡ a ++ cond g x []
    → cond (g && passed) (unfinished (map (λ rest. rest ++ b) rests)) [] ++ (cond passed (unfinished (map (λ t. t ++ x) others)) [] ++ last)
    ≡ cond passed (unfinished (map (λ t. t ++ x) (cond g (unfinished (map (λ rest. rest ++ a) rests)) [] ++ others))) [] ++ last
open_step true true a x b rests others last e =
    rw (grown a x b rests e, map-append (λ t. t ++ x) (unfinished (map (λ rest. rest ++ a) rests)) others, unfinished-append (map (λ t. t ++ x) (unfinished (map (λ rest. rest ++ a) rests))) (map (λ t. t ++ x) others), append_assoc) refl
open_step true false a x b rests others last e = refl
open_step false true a x b rests others last e = refl
open_step false false a x b rests others last e = refl

cond_empty : (b : Bool) → cond b (unfinished []) [] ≡ []
cond_empty true = refl
cond_empty false = refl

first_open : (b : Bool) (rests : List (List ℕ)) → unfinished (map (λ rest. rest ++ []) rests) ++ [] ≡ cond b (unfinished []) [] ++ unfinished rests
first_open b rests = rw (append-nil, map_append-nil rests, cond_empty b) refl

-- The texts that are open after y: the open ones with what y adds, if a packet may still add to them, and the starts of y.
pub open_texts-push : (before : Option TransportPacket) (packets : List TransportPacket) (y : TransportPacket)
    → open_texts before (packets ++ y ∷ [])
    ≡ cond (passes (last_from before packets) y) (unfinished (map (λ t. t ++ gives (last_from before packets) y) (open_texts before packets))) []
    ++ unfinished (starts_in (last_from before packets) y)
unfolding open_texts goes_on text_after
open_texts-push before [] y = first_open (passes before y) (starts_in before y)
open_texts-push before (p ∷ later) y =
    let x = gives (last_from (Some p) later) y in
    let passed = passes (last_from (Some p) later) y in
    let whole = map (λ rest. rest ++ text_after p (later ++ y ∷ [])) (starts_in before p) in
    let going : goes_on p (later ++ y ∷ []) ≡ (goes_on p later && passed) = goes_on-push p later y ∙ ap (λ l. goes_on p later && passes l y) (sym (last_from-some p later)) in
    ap (λ v. cond v (unfinished whole) [] ++ open_texts (Some p) (later ++ y ∷ [])) going
    ∙ ap (λ v. cond (goes_on p later && passed) (unfinished whole) [] ++ v) (open_texts-push (Some p) later y)
    ∙ open_step (goes_on p later) passed (text_after p later) x (text_after p (later ++ y ∷ [])) (starts_in before p) (open_texts (Some p) later) (unfinished (starts_in (last_from (Some p) later) y)) (gives-last p later y)

unfinished-unfinished : (texts : List (List ℕ)) → unfinished (unfinished texts) ≡ unfinished texts
unfinished-unfinished [] = refl
unfinished-unfinished (t ∷ texts) = elim (cases_Bool (has_section t)) [
  | inl e ↦ rw e (unfinished-unfinished texts)
  | inr e ↦ rw (e, e) (ap (λ ts. t ∷ ts) (unfinished-unfinished texts))
]

right_of-unfinished : (texts : List (List ℕ)) → right_of (unfinished texts) ≡ []
right_of-unfinished [] = right_of-nil
right_of-unfinished (t ∷ texts) = elim (cases_Bool (has_section t)) [
  | inl e ↦ rw e (right_of-unfinished texts)
  | inr e ↦ rw e (right_of-append (t ∷ []) (unfinished texts) ∙ rw (right_of-none t e) (right_of-unfinished texts))
]

-- the open texts are not whole
pub unfinished-open_texts : (before : Option TransportPacket) (packets : List TransportPacket) → unfinished (open_texts before packets) ≡ open_texts before packets
unfolding open_texts
unfinished-open_texts before [] = refl
unfinished-open_texts before (p ∷ later) =
    unfinished-append _ (open_texts (Some p) later)
    ∙ rw (unfinished-open_texts (Some p) later) (ap (λ v. v ++ open_texts (Some p) later) (still (goes_on p later) (map (λ rest. rest ++ text_after p later) (starts_in before p))))
  where
    still : (b : Bool) (texts : List (List ℕ)) → unfinished (cond b (unfinished texts) []) ≡ cond b (unfinished texts) []
    still true texts = unfinished-unfinished texts
    still false texts = refl

right_of-open : (before : Option TransportPacket) (packets : List TransportPacket) → right_of (open_texts before packets) ≡ []
right_of-open before packets = rw (← unfinished-open_texts before packets) (right_of-unfinished (open_texts before packets))

cond-not : (b : Bool) (xs : List (List ℕ)) → cond (not b) xs [] ≡ cond b [] xs
cond-not true xs = refl
cond-not false xs = refl

right_some : (r n : Bool) (y : TransportPacket) (texts : List (List ℕ)) → right_of texts ≡ []
    → right_of (map (λ t. t ++ cond r [] (cond n (cond y.start (before_pointed y) (y.payload ++ [])) [])) texts) ++ right_of (cond (y.start && not r) (starts_behind y.payload y.pointed) [])
    ≡ right_after (cond r Repeat (cond n Next Lost)) texts y
unfolding right_after
right_some true n y texts h = rw (map_append-nil texts, h, and_false y.start) right_of-nil
right_some false true y texts h = rw (append-nil y.payload, and_true y.start) refl
right_some false false y texts h = rw (map_append-nil texts, h, and_true y.start) refl

right_step : (l : Option TransportPacket) (y : TransportPacket) (texts : List (List ℕ)) → right_of texts ≡ []
    → right_of (map (λ t. t ++ gives l y) texts) ++ right_of (starts_in l y) ≡ right_after (step_to l y) texts y
unfolding right_after text_after starts_in
right_step None y texts h = rw (map_append-nil texts, h, and_true y.start) refl
right_step (Some p) y texts h = right_some (repeats p y) (counts_on p y) y texts h

open_some : (r n : Bool) (y : TransportPacket) (texts : List (List ℕ)) → unfinished texts ≡ texts
    → cond (r || (n && not y.start)) (unfinished (map (λ t. t ++ cond r [] (cond n (cond y.start (before_pointed y) (y.payload ++ [])) [])) texts)) []
    ++ unfinished (cond (y.start && not r) (starts_behind y.payload y.pointed) [])
    ≡ open_after (cond r Repeat (cond n Next Lost)) texts y
unfolding open_after
open_some true n y texts h = rw (map_append-nil texts, h, and_false y.start) (append-nil texts)
open_some false true y texts h = rw (append-nil y.payload, and_true y.start, cond-not y.start) refl
open_some false false y texts h = rw (and_true y.start) refl

open_next : (l : Option TransportPacket) (y : TransportPacket) (texts : List (List ℕ)) → unfinished texts ≡ texts
    → cond (passes l y) (unfinished (map (λ t. t ++ gives l y) texts)) [] ++ unfinished (starts_in l y) ≡ open_after (step_to l y) texts y
unfolding open_after text_after starts_in
open_next None y texts h = rw (and_true y.start) refl
open_next (Some p) y texts h = open_some (repeats p y) (counts_on p y) y texts h

-- The sections heard in y, by the texts that are open before it.
pub right_in-step : (packets : List TransportPacket) (y : TransportPacket)
    → right_in packets y ≡ right_after (step_to (last_from None packets) y) (open_texts None packets) y
unfolding right_in right_of
right_in-step packets y =
    ap (filter is_right) (complete_in-open None packets y)
    ∙ filter-append is_right _ _
    ∙ right_step (last_from None packets) y (open_texts None packets) (right_of-open None packets)

-- The texts open after y, by those open before it.
pub open_texts-step : (packets : List TransportPacket) (y : TransportPacket)
    → open_texts None (packets ++ y ∷ []) ≡ open_after (step_to (last_from None packets) y) (open_texts None packets) y
open_texts-step packets y =
    open_texts-push None packets y ∙ open_next (last_from None packets) y (open_texts None packets) (unfinished-open_texts None packets)

pub last_from-push : (before : Option TransportPacket) (packets : List TransportPacket) (y : TransportPacket) → last_from before (packets ++ y ∷ []) ≡ Some y
last_from-push before [] y = refl
last_from-push before (p ∷ later) y = last_from-push (Some p) later y
