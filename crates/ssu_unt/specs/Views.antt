-- What was read, without where its bytes lie.
use Rattle.std.specs.Option.{option_map}
use Rattle.wire.specs.Items.{items_of}
use Rattle.ssu_compat.specs.declared.me.BoxId.{BoxId}
use Rattle.ssu_unt.specs.declared.table.Unt.{Unt}
use Rattle.ssu_unt.specs.declared.rows.Platform.{Platform}
use Rattle.ssu_unt.specs.declared.rows.Pair.{Pair}
use Rattle.ssu_unt.specs.declared.entry.UntEntry.{UntEntry}
use Rattle.ssu_unt.specs.Table.{PairFields, PlatformFields, UntFields, pair, platform}
use Rattle.ssu_unt.specs.Targeting.{Me, TargetFields}

abbrev pub pair_view : Pair → PairFields
pair_view p = record { target = p.target.now; operational = p.operational.now }

abbrev pub platform_view : Platform → PlatformFields
platform_view p = record { compat = p.compat; pairs = items_of pair p.pairs.now; platform_loop = p.pairs.now }

abbrev pub unt_view : Unt → UntFields
unt_view u = record {
  action = u.action;
  oui = u.oui;
  order = u.order;
  number = u.number;
  last = u.last;
  common = u.common.now;
  platforms = items_of platform u.platforms;
}

abbrev pub entry_view : UntEntry → TargetFields
entry_view e = record { tag = e.tag; windows = e.windows.items; manual = e.manual; subgroup = e.subgroup }

abbrev pub me_view : BoxId → Me
me_view b = record {
  oui = b.oui;
  model = b.model;
  version = b.version;
  mac = b.mac;
  serial = option_map (λ s. s.items) b.serial;
}
