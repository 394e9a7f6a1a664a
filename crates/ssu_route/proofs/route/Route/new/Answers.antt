use Rattle.std.proofs.Common.{◌≡◌, [], None, sym, ap, ◌∙◌}
use Rattle.box_file.specs.declared.file.BoxFile.{BoxFile}
use Rattle.route_tables.proofs.Beginning.{level_5-none}
use Rattle.ssu_route.specs.Choosing.{level_6}
use Rattle.ssu_route.specs.Kept.{message_if}
use Rattle.ssu_route.specs.Route.{held}
use Rattle.ssu_route.proofs.LevelSteps.{no_carousel, no_groups, no_message}
use Rattle.ssu_route.proofs.route.Route.new.Goals as goal

pub returns : goal.returns
returns c = record {
  stands = λ box file bank_len.
      let none : level_6 box [] ≡ [] = no_carousel box [] (level_5-none box) in
      let not_held : held c.new-2.result ≡ None = ap message_if c.new-2.ensures.choice in
      record {
        tables = c.new.ensures.stands box file;
        terms = record {
          oui = ap (λ (f : BoxFile). f.id.oui) (sym file);
          model = ap (λ (f : BoxFile). f.id.model) (sym file);
          version = ap (λ (f : BoxFile). f.id.version) (sym file);
          rule = ap (λ (f : BoxFile). f.rule) (sym file);
          bank_len = sym bank_len;
        };
        kept = record {
          groups = c.new-2.ensures.groups ∙ sym (no_groups box [] none);
          message = not_held ∙ sym (no_message box [] none);
          planned = λ x e. let f = sym c.new-2.ensures.choice ∙ e in cc;
        };
      };
}
