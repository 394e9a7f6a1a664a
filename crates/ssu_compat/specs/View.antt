-- An entry without where its bytes lie.
use Rattle.ssu_compat.specs.declared.entry.Entry.{Entry}
use Rattle.ssu_compat.specs.Compat.{EntryFields}

abbrev pub view : Entry → EntryFields
view e = record { kind = e.kind; specifier = e.specifier; oui = e.oui; model = e.model; version = e.version; subs = e.subs; sub_bytes = e.sub_bytes.now }
