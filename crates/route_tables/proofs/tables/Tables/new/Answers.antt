use Rattle.std.proofs.Common.{sym, ap, ◌∙◌}
use Rattle.std.specs.Prelude.{option_to_list}
use Rattle.box_file.specs.declared.file.BoxFile.{BoxFile}
use Rattle.route_tables.proofs.Beginning.{level_1-none, level_2-none, level_3-none, notice-none, time_now-none, level_5-none}
use Rattle.route_tables.proofs.tables.Tables.new.Goals as goal

pub returns : goal.returns
returns c = record {
  stands = λ me is. record {
    id = c.copy_of.ensures ∙ ap (λ (f : BoxFile). f.id) (sym is);
    manual = ap (λ (f : BoxFile). f.manual) (sym is);
    service = ap (λ (f : BoxFile). f.service) (sym is);
    services = c.configured.ensures ∙ ap (λ (f : BoxFile). option_to_list f.service) (sym is) ∙ sym (level_1-none me);
    program = sym (level_2-none me);
    component = sym (level_3-none me);
    notice = sym (notice-none me);
    time = sym time_now-none;
    carousel = sym (level_5-none me);
  };
}
