-- The test that an entry is open is what the notification table's own words say.
use Rattle.std.proofs.Common.{◌≡◌, ℕ, Bool, true, false, ◌&&◌, ◌||◌, not, List, [], ◌∷◌, Option, Some, None, refl, ap, ◌∙◌, sym, arith}
use Rattle.std.specs.Prelude.{IsTrue, ◌↔◌, ◌==◌, ◌≢◌, length, IsSomeAnd}
use Rattle.std.proofs.lemmas.List.Folds.{Any-from_list_any, list_any-from_Any}
use Rattle.ssu_time.specs.Opening.{IsOpen}
use Rattle.ssu_time.specs.declared.windows.Window.{Window}
use Rattle.ssu_unt.specs.Targeting.{TargetFields, PairIsOpen, HasOpenWindow}
use Rattle.route_tables.specs.Levels.{window_open, some_window_open, entry_open}

pub open_means : (now : ℕ) (w : Window) → IsTrue (window_open now w) → IsOpen w.start w.end w.period w.duration now
open_means now w h = record {
  started = grind (arith, h);
  not_ended = grind (arith, h);
  on = grind (arith, h);
}

-- and the other way
pub means_open : (now : ℕ) (w : Window) → IsOpen w.start w.end w.period w.duration now → IsTrue (window_open now w)
means_open now w h = grind (arith, h.started, h.not_ended, h.on)

some_means : (now : Option ℕ) (windows : List Window) → IsTrue (some_window_open now windows) → IsSomeAnd now (λ second. HasOpenWindow windows second)
some_means None windows h = cc
some_means (Some now) windows h =
    let found = Any-from_list_any (window_open now) windows h in
    (found.0, found.1, found.2, found.3, open_means now found.1 found.4)

means_some : (now : Option ℕ) (windows : List Window) → IsSomeAnd now (λ second. HasOpenWindow windows second) → IsTrue (some_window_open now windows)
means_some None windows h = absurd h
means_some (Some now) windows h =
    list_any-from_Any (window_open now) windows (h.0, h.1, h.2, h.3, means_open now h.1 h.4)

allowed_of : (manual allowed rest : Bool) → IsTrue ((not manual || allowed) && rest) → IsTrue manual → IsTrue allowed
allowed_of true true rest h m = refl
allowed_of true false rest h m = cc
allowed_of false allowed rest h m = cc

not_empty : (w : Window) (ws : List Window) → (length (w ∷ ws) == 0) ≡ false
not_empty w ws = grind arith

timely_of : (first : Bool) (windows : List Window) (some : Bool) → IsTrue (first && (length windows == 0 || some)) → windows ≢ [] → IsTrue some
timely_of false windows some h n = cc
timely_of true [] some h n = absurd (n refl)
timely_of true (w ∷ ws) some h n = ap (λ b. b || some) (sym (not_empty w ws)) ∙ h

pub entry_means : (allowed : Bool) (now : Option ℕ) (e : TargetFields) → IsTrue (entry_open allowed now e) → PairIsOpen e now allowed
entry_means allowed now e h = record {
  allowed = allowed_of e.manual allowed (length e.windows == 0 || some_window_open now e.windows) h;
  timely = λ n. some_means now e.windows (timely_of (not e.manual || allowed) e.windows (some_window_open now e.windows) h n);
}

both_of : (manual allowed : Bool) (windows : List Window) (some : Bool) →
    (IsTrue manual → IsTrue allowed) → (windows ≢ [] → IsTrue some) → IsTrue ((not manual || allowed) && (length windows == 0 || some))
both_of true allowed [] some a t = rw (a refl) refl
both_of false allowed [] some a t = refl
both_of true allowed (w ∷ ws) some a t = rw (a refl, not_empty w ws, t (λ e. cc)) refl
both_of false allowed (w ∷ ws) some a t = rw (not_empty w ws, t (λ e. cc)) refl

pub means_entry : (allowed : Bool) (now : Option ℕ) (e : TargetFields) → PairIsOpen e now allowed → IsTrue (entry_open allowed now e)
means_entry allowed now e h =
    both_of e.manual allowed e.windows (some_window_open now e.windows) h.allowed (λ n. means_some now e.windows (h.timely n))

-- one test for the other
pub open_is : (allowed : Bool) (now : Option ℕ) (e : TargetFields) (b : Bool) → (IsTrue b ↔ PairIsOpen e now allowed) → b ≡ entry_open allowed now e
open_is allowed now e b h = agree b (entry_open allowed now e) (λ t. means_entry allowed now e (h.0 t)) (λ t. h.1 (entry_means allowed now e t))
  where
    agree : (a b : Bool) → (IsTrue a → IsTrue b) → (IsTrue b → IsTrue a) → a ≡ b
    agree true true f g = refl
    agree true false f g = sym (f refl)
    agree false true f g = g refl
    agree false false f g = refl
