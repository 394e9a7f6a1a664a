-- What the command tells of a sample.
use Rattle.std.proofs.Common.{◌≡◌, ◌≤◌, ℕ, List, [], ◌++◌, append_assoc, subst, sym}
use Rattle.broadcast.specs.declared.outcome.Outcome.{Outcome}
use Rattle.ssu_io.specs.Bytes.{Gains, GainsPrefix}
use Rattle.ssu_io.specs.Faults.{Rose}
use Rattle.ssu_io.specs.Seen.{SinkSeen}
use Rattle.ssu_status.specs.Answers.{IsPrinted}
use Rattle.ssu_status.specs.Status.{OnDone, OnWriteFault}
use Rattle.ssu_status.specs.declared.status.Status.{Status}
use Rattle.ssu_status.specs.declared.status.Status.TheVariants.{Done, WriteFault}
use Rattle.tool_sample.specs.Does.{ForOutcome, SampleDoes, text_of}

-- three lines, one after the other
pub joined : (none one two all a b c x y z : List ℕ) → none ≡ [] → one ≡ none ++ a → two ≡ one ++ b → all ≡ two ++ c → a ≡ x → b ≡ y → c ≡ z
    → all ≡ x ++ (y ++ z)
joined none one two all a b c x y z empty first second third a_is b_is c_is =
    rw (third, second, first, empty, a_is, b_is, c_is) (append_assoc x y z)

fact_of : (number : ℕ) (outcome : Outcome) (P : Outcome → Type 0) → ForOutcome number (λ o. o ≡ outcome) → P outcome → ForOutcome number P
fact_of number outcome P found p = record {
  before = found.before;
  after = found.after;
  outcome = found.outcome;
  formatted = found.formatted;
  concludes = found.concludes;
  sections = found.sections;
  fact = subst P (sym found.fact) p;
}

pub told : (number : ℕ) (status : Status) (out : SinkSeen) (outcome : Outcome) → ForOutcome number (λ o. o ≡ outcome)
    → OnDone status (Gains out.got out.got_after (text_of number outcome)) → OnWriteFault status (GainsPrefix out.got out.got_after (text_of number outcome))
    → OnWriteFault status (Rose out.faults out.faults_after) → IsPrinted status → out.faults ≤ out.faults_after → SampleDoes number status out
told number Done out outcome found done failed cause is later = record {
  done = fact_of number outcome (λ o. Gains out.got out.got_after (text_of number o)) found done;
  no_memory = tt;
  write_fault = tt;
  write_cause = tt;
  answers = tt;
  out_later = later;
}
told number WriteFault out outcome found done failed cause is later = record {
  done = tt;
  no_memory = tt;
  write_fault = fact_of number outcome (λ o. GainsPrefix out.got out.got_after (text_of number o)) found failed;
  write_cause = cause;
  answers = tt;
  out_later = later;
}
told number other out outcome found done failed cause is later = absurd is
