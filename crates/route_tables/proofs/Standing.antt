-- What is kept stands for one section more.
use Rattle.std.proofs.Common.{◌≡◌, ℕ, Bool, List, ◌∷◌, Option, refl, sym, ap, ◌∙◌}
use Rattle.ssu_compat.specs.declared.me.BoxId.{BoxId}
use Rattle.si_desc.specs.declared.linkages.ServiceRef.{ServiceRef}
use Rattle.ts_section.specs.Events.{Heard}
use Rattle.route_tables.specs.Values.{Receiver, ProgramFound, ComponentFound, NoticeFound, CarouselFound, same_services, same_program, same_component}
use Rattle.route_tables.specs.Levels.{level_1, level_2, level_3, entries_of, notice, time_now, level_5, carousel_from}
use Rattle.route_tables.specs.Next.{services_after, program_after, component_after, notice_after, time_after}
use Rattle.route_tables.proofs.Sixteen.{level_1-step}
use Rattle.route_tables.proofs.Steps.{level_2-step, level_3-step, notice-step, time_now-step, level_5-is}

pub services_stand : (me : Receiver) (heard : List Heard) (item : Heard) (configured : Option ServiceRef) (id : BoxId) (before after : List ServiceRef)
    → configured ≡ me.file.service → id ≡ me.file.id → before ≡ level_1 me heard → after ≡ services_after configured id.oui item before
    → after ≡ level_1 me (item ∷ heard)
services_stand me heard item configured id before after c i b a =
    let is : services_after configured id.oui item before ≡ services_after me.file.service me.file.id.oui item (level_1 me heard) = rw (c, i, b) refl in
    a ∙ is ∙ sym (level_1-step me item heard)

pub program_stands : (me : Receiver) (heard : List Heard) (item : Heard) (is_same : Bool) (old new : List ServiceRef) (before after : Option ProgramFound)
    → old ≡ level_1 me heard → new ≡ level_1 me (item ∷ heard) → is_same ≡ same_services new old → before ≡ level_2 me heard
    → after ≡ program_after is_same new item before → after ≡ level_2 me (item ∷ heard)
program_stands me heard item is_same old new before after o n s b a =
    let is : program_after is_same new item before
    ≡ program_after (same_services (level_1 me (item ∷ heard)) (level_1 me heard)) (level_1 me (item ∷ heard)) item (level_2 me heard) = rw (s, o, n, b) refl in
    a ∙ is ∙ sym (level_2-step me item heard)

pub component_stands : (me : Receiver) (heard : List Heard) (item : Heard) (is_same : Bool) (id : BoxId) (old new : Option ProgramFound) (before after : Option ComponentFound)
    → id ≡ me.file.id → old ≡ level_2 me heard → new ≡ level_2 me (item ∷ heard) → is_same ≡ same_program new old → before ≡ level_3 me heard
    → after ≡ component_after is_same id.oui new item before → after ≡ level_3 me (item ∷ heard)
component_stands me heard item is_same id old new before after i o n s b a =
    let is : component_after is_same id.oui new item before
    ≡ component_after (same_program (level_2 me (item ∷ heard)) (level_2 me heard)) me.file.id.oui (level_2 me (item ∷ heard)) item (level_3 me heard) = rw (s, o, n, b, i) refl in
    a ∙ is ∙ sym (level_3-step me item heard)

pub notice_stands : (me : Receiver) (heard : List Heard) (item : Heard) (is_same : Bool) (id : BoxId) (old new : Option ComponentFound) (before after : Option NoticeFound)
    → id ≡ me.file.id → old ≡ level_3 me heard → new ≡ level_3 me (item ∷ heard) → is_same ≡ same_component new old → before ≡ notice me heard
    → after ≡ notice_after is_same id new item before → after ≡ notice me (item ∷ heard)
notice_stands me heard item is_same id old new before after i o n s b a =
    let is : notice_after is_same id new item before
    ≡ notice_after (same_component (level_3 me (item ∷ heard)) (level_3 me heard)) me.file.id (level_3 me (item ∷ heard)) item (notice me heard) = rw (s, o, n, b, i) refl in
    a ∙ is ∙ sym (notice-step me item heard)

pub time_stands : (heard : List Heard) (item : Heard) (before after : Option ℕ) → before ≡ time_now heard → after ≡ time_after item before
    → after ≡ time_now (item ∷ heard)
time_stands heard item before after b a = a ∙ ap (time_after item) b ∙ sym (time_now-step item heard)

pub carousel_stands : (me : Receiver) (heard : List Heard) (manual : Bool) (now : Option ℕ) (component : Option ComponentFound) (n : Option NoticeFound) (carousel : Option CarouselFound)
    → manual ≡ me.file.manual → now ≡ time_now heard → component ≡ level_3 me heard → n ≡ notice me heard
    → carousel ≡ carousel_from manual now component (entries_of n) → carousel ≡ level_5 me heard
carousel_stands me heard manual now component n carousel m t c e a =
    let is : carousel_from manual now component (entries_of n)
    ≡ carousel_from me.file.manual (time_now heard) (level_3 me heard) (entries_of (notice me heard)) = rw (m, t, c, e) refl in
    a ∙ is ∙ level_5-is me heard
