-- What was read, without where its bytes lie.
use Rattle.si_desc.specs.declared.rows.Desc.{Desc}
use Rattle.si_desc.specs.declared.linkages.Linkage.{Linkage}
use Rattle.si_desc.specs.declared.linkages.OuiEntry.{OuiEntry}
use Rattle.si_desc.specs.declared.infos.SsuInfo.{SsuInfo}
use Rattle.si_desc.specs.Descriptors.{DescFields}
use Rattle.si_desc.specs.Linkage.{LinkageFields, OuiFields}
use Rattle.si_desc.specs.SsuInfo.{InfoFields}

abbrev pub desc_view : Desc → DescFields
desc_view d = record { tag = d.tag; body = d.body.now }

abbrev pub linkage_view : Linkage → LinkageFields
linkage_view l = record { to = l.to; kind = l.kind; rest = l.rest.now }

abbrev pub oui_view : OuiEntry → OuiFields
oui_view e = record { oui = e.oui; selector = e.selector.now }

abbrev pub info_view : SsuInfo → InfoFields
info_view i = record { oui = i.oui; update_type = i.update_type; versioned = i.versioned; version = i.version; selector = i.selector.now }
