use Rattle.std.proofs.Common.{◌/◌, ◌%◌, arith}
use Rattle.ssu_time.specs.TimeText.{time_text}
use Rattle.ssu_time.proofs.TimeTextLemmas.{text_of_time}
use Rattle.ssu_time.proofs.utc_time.Utc.text.Goals as goal

pub returns-clause-is : goal.returns-clause-is
returns-clause-is c = record {
  year = c.date_of-year.result.0;
  month = c.date_of-year.result.1;
  day = c.date_of-year.result.2;
  hour = c.args.self.second / 3600;
  minute = c.args.self.second / 60 % 60;
  last = c.args.self.second % 60;
  spelled = c.text_of.ensures;
  year_in = c.date_of-year.ensures.year_in;
  date = c.date_of-year.ensures.date;
  hour_in = omega (arith, c.args.self.in_day);
  minute_in = omega arith;
  last_in = omega arith;
  on_day = c.date_of-year.ensures.day;
  in_day = omega arith;
}

pub returns-clause-value : goal.returns-clause-value
unfolding time_text
returns-clause-value c = text_of_time (returns-clause-is c)
