-- What an answer says, unless a group was installed.
use Rattle.std.specs.Prelude.{IfNone, IfOk, None, Ok, Err, Option, Result, Some}
use Rattle.ssu_answer.specs.declared.verdict.Verdict.{Verdict}
use Rattle.ssu_answer.specs.declared.verdict.Verdict.TheVariants.{Installed, Nothing, Incomplete, BadModule, Unsettled}
use Rattle.ssu_loader.specs.Leaving.{IfBadModule, UnlessInstalled}

pub unless_none : {E : Type 0} (r : Result (Option Verdict) E) (P : Type 0) → UnlessInstalled r P → IfOk r (λ o. IfNone o P)
unless_none (Ok None) P is = is
unless_none (Ok (Some v)) P is = tt
unless_none (Err e) P is = tt

pub unless_from : {E : Type 0} (r : Result (Option Verdict) E) (P : Type 0) → P → UnlessInstalled r P
unless_from (Ok None) P is = is
unless_from (Ok (Some (Installed chosen))) P is = tt
unless_from (Ok (Some (Nothing level))) P is = is
unless_from (Ok (Some (Incomplete chosen count))) P is = is
unless_from (Ok (Some (BadModule id want found))) P is = is
unless_from (Ok (Some Unsettled)) P is = is
unless_from (Err e) P is = is

pub unless_one : {E : Type 0} (r : Result (Option Verdict) E) (P Q : Type 0) → (P → Q) → UnlessInstalled r P → UnlessInstalled r Q
unless_one (Ok None) P Q follows is = follows is
unless_one (Ok (Some (Installed chosen))) P Q follows is = tt
unless_one (Ok (Some (Nothing level))) P Q follows is = follows is
unless_one (Ok (Some (Incomplete chosen count))) P Q follows is = follows is
unless_one (Ok (Some (BadModule id want found))) P Q follows is = follows is
unless_one (Ok (Some Unsettled)) P Q follows is = follows is
unless_one (Err e) P Q follows is = follows is

-- where no module was found wrong
pub never_wrong : {E : Type 0} (r : Result (Option Verdict) E) (P : Type 0) → IfOk r (λ o. IfBadModule o ⊥) → IfOk r (λ o. IfBadModule o P)
never_wrong (Ok None) P never = tt
never_wrong (Ok (Some (Installed chosen))) P never = tt
never_wrong (Ok (Some (Nothing level))) P never = tt
never_wrong (Ok (Some (Incomplete chosen count))) P never = tt
never_wrong (Ok (Some (BadModule id want found))) P never = absurd never
never_wrong (Ok (Some Unsettled)) P never = tt
never_wrong (Err e) P never = tt
