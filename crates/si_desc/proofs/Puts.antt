-- What is written is a spelling.
use Rattle.std.proofs.Common.{ℕ, ◌+◌, ◌*◌, ◌<◌, ◌^◌, List, [], ◌∷◌, ◌++◌, length, refl, arith, false}
use Rattle.wire.specs.Number.{bytes_of}
use Rattle.wire.proofs.Numbers.{number1_put, number2_put, number3_put, low_put}
use Rattle.si_desc.specs.Descriptors.{IsDescriptor, descriptor, stream_identifier}
use Rattle.si_desc.specs.Linkage.{OuiFields, linkage, oui_entry, update_ouis}
use Rattle.si_desc.specs.SsuInfo.{InfoFields, info, update_infos}
use Rattle.si_desc.specs.Written.{IsUpdateLinkage, component_bytes, info_bytes, linkage_bytes, written_info}
use Rattle.si_desc.specs.declared.linkages.ServiceRef.{ServiceRef}

-- a tag, the length of a body, and the body
pub desc_put : (tag : ℕ) (body : List ℕ) → tag < 2 ^ 8 → length body < 2 ^ 8 → descriptor.Spells (record { tag = tag; body = body }) (bytes_of 1 tag ++ bytes_of 1 (length body) ++ body)
unfolding descriptor
desc_put tag body t l = (
  (tag, body),
  refl,
  record {
    front = bytes_of 1 tag;
    back = bytes_of 1 (length body) ++ body;
    parts = refl;
    first = number1_put tag t;
    second = record { front = bytes_of 1 (length body); inside = body; parts = refl; len = number1_put (length body) l; filled = refl };
  },
)

pub component_put : (tag : ℕ) → tag < 2 ^ 8 → IsDescriptor stream_identifier 0x52 tag (component_bytes tag)
unfolding stream_identifier
component_put tag h = record {
  body = bytes_of 1 tag;
  spelled = desc_put 0x52 (bytes_of 1 tag) (omega arith) (omega arith);
  says = number1_put tag h;
}

entry_put : (oui update_type : ℕ) → oui < 2 ^ 24 → update_type < 16
    → info.Spells (record { oui = oui; update_type = update_type; versioned = false; version = 0; selector = [] }) (bytes_of 3 oui ++ bytes_of 1 (15 * 16 + update_type) ++ bytes_of 1 0xC0 ++ bytes_of 1 0)
unfolding info
entry_put oui update_type h k = (
  (oui, (update_type, (0xC0, []))),
  refl,
  record {
    front = bytes_of 3 oui;
    back = bytes_of 1 (15 * 16 + update_type) ++ bytes_of 1 0xC0 ++ bytes_of 1 0;
    parts = refl;
    first = number3_put oui h;
    second = record {
      front = bytes_of 1 (15 * 16 + update_type);
      back = bytes_of 1 0xC0 ++ bytes_of 1 0;
      parts = refl;
      first = low_put 1 4 15 update_type k (omega arith);
      second = record {
        front = bytes_of 1 0xC0;
        back = bytes_of 1 0;
        parts = refl;
        first = number1_put 0xC0 (omega arith);
        second = record { front = bytes_of 1 0; inside = []; parts = refl; len = number1_put 0 (omega arith); filled = refl };
      };
    };
  },
)

pub info_put : (oui update_type : ℕ) → oui < 2 ^ 24 → update_type < 16 → IsDescriptor update_infos 0x66 (written_info oui update_type ∷ []) (info_bytes oui update_type)
unfolding update_infos
info_put oui update_type h k =
    let entry = bytes_of 3 oui ++ bytes_of 1 (15 * 16 + update_type) ++ bytes_of 1 0xC0 ++ bytes_of 1 0 in
    let fields : InfoFields = record { oui = oui; update_type = update_type; versioned = false; version = 0; selector = [] } in
    let body = bytes_of 2 0x000A ++ bytes_of 1 6 ++ entry in
    record {
      body = body;
      spelled = desc_put 0x66 body (omega arith) (omega arith);
      says = (
        (tt, (fields ∷ [], [])),
        refl,
        record {
          front = bytes_of 2 0x000A;
          back = bytes_of 1 6 ++ entry;
          parts = refl;
          first = number2_put 0x000A (omega arith);
          second = record {
            front = bytes_of 1 6 ++ entry;
            back = [];
            parts = refl;
            first = record {
              front = bytes_of 1 6;
              inside = entry;
              parts = refl;
              len = number1_put 6 (omega arith);
              filled = record { front = entry; back = []; parts = refl; first = entry_put oui update_type h k; second = refl };
            };
            second = refl;
          };
        },
      );
    }

oui_put : (oui : ℕ) → oui < 2 ^ 24 → oui_entry.Spells (record { oui = oui; selector = [] }) (bytes_of 3 oui ++ bytes_of 1 0)
unfolding oui_entry
oui_put oui h = (
  (oui, []),
  refl,
  record {
    front = bytes_of 3 oui;
    back = bytes_of 1 0;
    parts = refl;
    first = number3_put oui h;
    second = record { front = bytes_of 1 0; inside = []; parts = refl; len = number1_put 0 (omega arith); filled = refl };
  },
)

ouis_put : (oui : ℕ) → oui < 2 ^ 24 → update_ouis.Spells (record { oui = oui; selector = [] } ∷ []) (bytes_of 1 4 ++ bytes_of 3 oui ++ bytes_of 1 0)
unfolding update_ouis
ouis_put oui h =
    let entry = bytes_of 3 oui ++ bytes_of 1 0 in
    let fields : OuiFields = record { oui = oui; selector = [] } in (
      (fields ∷ [], []),
      refl,
      record {
        front = bytes_of 1 4 ++ entry;
        back = [];
        parts = refl;
        first = record {
          front = bytes_of 1 4;
          inside = entry;
          parts = refl;
          len = number1_put 4 (omega arith);
          filled = record { front = entry; back = []; parts = refl; first = oui_put oui h; second = refl };
        };
        second = refl;
      },
    )

link_put : (to : ServiceRef) (kind : ℕ) (rest : List ℕ) → to.ts < 2 ^ 16 → to.network < 2 ^ 16 → to.service < 2 ^ 16 → kind < 2 ^ 8
    → linkage.Spells (record { to = to; kind = kind; rest = rest }) ((bytes_of 2 to.ts ++ bytes_of 2 to.network ++ bytes_of 2 to.service ++ bytes_of 1 kind) ++ rest)
unfolding linkage
link_put to kind rest t n s k = (
  ((to.ts, (to.network, (to.service, kind))), rest),
  refl,
  record {
    front = bytes_of 2 to.ts ++ bytes_of 2 to.network ++ bytes_of 2 to.service ++ bytes_of 1 kind;
    back = rest;
    parts = refl;
    first = record {
      front = bytes_of 2 to.ts;
      back = bytes_of 2 to.network ++ bytes_of 2 to.service ++ bytes_of 1 kind;
      parts = refl;
      first = number2_put to.ts t;
      second = record {
        front = bytes_of 2 to.network;
        back = bytes_of 2 to.service ++ bytes_of 1 kind;
        parts = refl;
        first = number2_put to.network n;
        second = record { front = bytes_of 2 to.service; back = bytes_of 1 kind; parts = refl; first = number2_put to.service s; second = number1_put kind k };
      };
    };
    second = refl;
  },
)

pub linkage_put : (to : ServiceRef) (oui : ℕ) → to.ts < 2 ^ 16 → to.network < 2 ^ 16 → to.service < 2 ^ 16 → oui < 2 ^ 24 → IsUpdateLinkage to oui (linkage_bytes to oui)
linkage_put to oui t n s h =
    let rest = bytes_of 1 4 ++ bytes_of 3 oui ++ bytes_of 1 0 in
    let body = (bytes_of 2 to.ts ++ bytes_of 2 to.network ++ bytes_of 2 to.service ++ bytes_of 1 0x09) ++ rest in
    record {
      body = body;
      rest = rest;
      spelled = desc_put 0x4A body (omega arith) (omega arith);
      linked = link_put to 0x09 rest t n s (omega arith);
      listed = ouis_put oui h;
    }
