-- What is printed, packet by packet.
use Rattle.std.proofs.Common.{◌≡◌, ℕ, ◌+◌, ◌<◌, Bool, true, false, List, [], ◌∷◌, ◌++◌, length, reverse, Option, sym, ap, subst, refl, ◌∙◌}
use Rattle.std.proofs.lemmas.List.{append-nil, reverse-append, length-reverse}
use Rattle.ssu_io.specs.Bytes.{Takes, Gains, GainsPrefix}
use Rattle.ssu_io.specs.SinkBuffer.{MovesOn}
use Rattle.ssu_io.proofs.BytesLemmas.{Gains_none, Takes_join}
use Rattle.ts_input.specs.Input.{TakesRest}
use Rattle.ts_input.specs.Packets.{packets}
use Rattle.ts_packet.specs.Packet.{pid_of}
use Rattle.ts_section.specs.Events.{Feed, heard}
use Rattle.ts_input.specs.Puts.{Puts, PutsOfMost, PutsPrefix}
use Rattle.ts_input.specs.SoFar.{SoFar}
use Rattle.ts_input.proofs.Runs.{begin, step, step_failed, flushed_longer, run_ended, run_failed}
use Rattle.route_tables.specs.Values.{Receiver}
use Rattle.ssu_route.specs.Queries.{followed}
use Rattle.tool_find.specs.Lines.{lines_for, lines_if, heard_lines, levels_lines, text_of, whole_text, Walks}
use Rattle.tool_find.specs.declared.walk.Walk.{Walk}

text_none : (shows : Bool) (me : Receiver) → text_of shows me [] ≡ []
unfolding text_of heard_lines
text_none true me = refl
text_none false me = refl

lines_more : (shows : Bool) (me : Receiver) (packet : List ℕ) (earlier : List (List ℕ))
    → lines_if shows me (packet ∷ earlier) ≡ lines_if shows me earlier ++ lines_for shows (length earlier) (pid_of packet) (heard (Feed packet ∷ followed me earlier))
unfolding heard_lines
lines_more true me packet earlier = refl
lines_more false me packet earlier = refl

text_more : (shows : Bool) (me : Receiver) (packet : List ℕ) (ps : List (List ℕ))
    → text_of shows me (ps ++ packet ∷ []) ≡ text_of shows me ps ++ lines_for shows (length ps) (pid_of packet) (heard (Feed packet ∷ followed me (reverse ps)))
unfolding text_of
text_more shows me packet ps =
    ap (lines_if shows me) (reverse-append ps (packet ∷ []))
    ∙ lines_more shows me packet (reverse ps)
    ∙ ap (λ n. lines_if shows me (reverse ps) ++ lines_for shows n (pid_of packet) (heard (Feed packet ∷ followed me (reverse ps)))) (length-reverse ps)

pub whole_is : (shows : Bool) (me : Receiver) (ps : List (List ℕ)) → whole_text shows me ps ≡ text_of shows me ps ++ levels_lines me (reverse ps)
unfolding whole_text
whole_is shows me ps = refl

-- The walk stands for these packets, the oldest first.
abbrev pub StandsFor : Receiver → Walk → List (List ℕ) → Type 0
StandsFor me walk ps = Walks me walk (reverse ps)

abbrev pub WalkedSoFar : (shows : Bool) (me : Receiver) (count : ℕ) (walk : Walk) (left left_now got got_now : Option (List ℕ)) (waiting : List ℕ) → Type 0
WalkedSoFar shows me count walk left left_now got got_now waiting =
    SoFar (text_of shows me) (StandsFor me walk) count left left_now got got_now waiting

-- what is printed behind the text of these packets
abbrev pub levels_of : Receiver → List (List ℕ) → List ℕ
levels_of me ps = levels_lines me (reverse ps)

pub walk_begin : (shows : Bool) (me : Receiver) (walk : Walk) (left got : Option (List ℕ)) (waiting : List ℕ)
    → waiting ≡ [] → Walks me walk [] → WalkedSoFar shows me 0 walk left left got got waiting
walk_begin shows me walk left got waiting none stands =
    begin (text_of shows me) (StandsFor me walk) left got waiting none (text_none shows me) stands

-- the text of one packet more
more_text : (shows : Bool) (me : Receiver) (before : Walk) (packet : List ℕ) (each : List (List ℕ)) (count : ℕ)
    → ((ps : List (List ℕ)) → Walks me before ps → each ≡ heard (Feed packet ∷ followed me ps))
    → (ps : List (List ℕ)) → length ps ≡ count → StandsFor me before ps
    → text_of shows me (ps ++ packet ∷ []) ≡ text_of shows me ps ++ lines_for shows count (pid_of packet) each
more_text shows me before packet each count hears ps many stands =
    text_more shows me packet ps
    ∙ ap (λ n. text_of shows me ps ++ lines_for shows n (pid_of packet) (heard (Feed packet ∷ followed me (reverse ps)))) many
    ∙ ap (λ sections. text_of shows me ps ++ lines_for shows count (pid_of packet) sections) (sym (hears (reverse ps) stands))

pub walk_step : (shows : Bool) (me : Receiver) (count : ℕ) (before after : Walk) (left left_now left_then got got_now got_then : Option (List ℕ)) (waited waiting packet : List ℕ) (each : List (List ℕ))
    → WalkedSoFar shows me count before left left_now got got_now waited
    → Takes left_now left_then packet → length packet ≡ 188
    → ((ps : List (List ℕ)) → Walks me before ps → Walks me after (packet ∷ ps))
    → ((ps : List (List ℕ)) → Walks me before ps → each ≡ heard (Feed packet ∷ followed me ps))
    → MovesOn got_now got_then waited (lines_for shows count (pid_of packet) each) waiting
    → WalkedSoFar shows me (count + 1) after left left_then got got_then waiting
walk_step shows me count before after left left_now left_then got got_now got_then waited waiting packet each sofar takes one stands hears moves =
    step (text_of shows me) (StandsFor me before) (StandsFor me after) count left left_now left_then got got_now got_then waited waiting packet
    (lines_for shows count (pid_of packet) each)
    sofar takes one
    (λ ps many walks. subst (Walks me after) (sym (reverse-append ps (packet ∷ []))) (stands (reverse ps) walks))
    (more_text shows me before packet each count hears)
    moves

-- A write failed while the lines of a packet were put.
pub walk_step_failed : (shows : Bool) (me : Receiver) (count : ℕ) (before : Walk) (left left_now left_then got got_now got_then : Option (List ℕ)) (waited packet : List ℕ) (each : List (List ℕ))
    → WalkedSoFar shows me count before left left_now got got_now waited
    → Takes left_now left_then packet → length packet ≡ 188
    → ((ps : List (List ℕ)) → Walks me before ps → each ≡ heard (Feed packet ∷ followed me ps))
    → GainsPrefix got_now got_then (waited ++ lines_for shows count (pid_of packet) each)
    → count < 16777216
    → PutsPrefix (text_of shows me) left left_then got got_then
walk_step_failed shows me count before left left_now left_then got got_now got_then waited packet each sofar takes one hears failed few =
    step_failed (text_of shows me) (StandsFor me before) count left left_now left_then got got_now got_then waited packet
    (lines_for shows count (pid_of packet) each)
    sofar takes one (more_text shows me before packet each count hears) failed few

no_rest : (moved waiting : List ℕ) → [] ≡ moved ++ waiting → waiting ≡ []
no_rest [] waiting e = sym e
no_rest (byte ∷ moved) waiting e = absurd cc

-- Where no sections are shown nothing waits.
nothing_waits : (me : Receiver) (count : ℕ) (walk : Walk) (left left_now got got_now : Option (List ℕ)) (waiting : List ℕ)
    → WalkedSoFar false me count walk left left_now got got_now waiting → waiting ≡ []
unfolding text_of
nothing_waits me count walk left left_now got got_now waiting sofar = no_rest sofar.moves.moved waiting sofar.moves.none_lost

-- What waited went out where sections are shown; else nothing waited.
pub went : (shows : Bool) (me : Receiver) (count : ℕ) (walk : Walk) (left left_now got got_now got_then : Option (List ℕ)) (waiting : List ℕ)
    → WalkedSoFar shows me count walk left left_now got got_now waiting
    → (shows ≡ true → Gains got_now got_then waiting) → (shows ≡ false → got_then ≡ got_now) → Gains got_now got_then waiting
went true me count walk left left_now got got_now got_then waiting sofar gains same = gains refl
went false me count walk left left_now got got_now got_then waiting sofar gains same =
    rw (nothing_waits me count walk left left_now got got_now waiting sofar, same refl) (Gains_none got_now)

-- Then nothing waits.
pub none_left : (shows : Bool) (me : Receiver) (count : ℕ) (walk : Walk) (left left_now got got_now : Option (List ℕ)) (waiting after : List ℕ)
    → WalkedSoFar shows me count walk left left_now got got_now waiting
    → (shows ≡ true → after ≡ []) → (shows ≡ false → after ≡ waiting) → after ≡ []
none_left true me count walk left left_now got got_now waiting after sofar empty same = empty refl
none_left false me count walk left left_now got got_now waiting after sofar empty same =
    same refl ∙ nothing_waits me count walk left left_now got got_now waiting sofar

-- Nothing more was taken behind the rest.
pub rest_still : (count : ℕ) (left left_now left_then : Option (List ℕ)) → TakesRest count left left_now → Takes left_now left_then [] → TakesRest count left left_then
rest_still count left left_now left_then rest nothing = record {
  rest = rest.rest;
  fewer = rest.fewer;
  within = rest.within;
  takes = subst (Takes left left_then) (append-nil rest.rest) (Takes_join left left_now left_then rest.rest [] rest.takes nothing);
}

-- The levels behind all that waited, which went out before.
levels_wait : (shows : Bool) (me : Receiver) (count : ℕ) (walk : Walk) (left left_now got got_now got_mid : Option (List ℕ)) (waiting : List ℕ)
    → (sofar : WalkedSoFar shows me count walk left left_now got got_now waiting) → Gains got_now got_mid waiting
    → SoFar (whole_text shows me) (StandsFor me walk) count left left_now got got_mid ([] ++ levels_of me (packets sofar.taken))
levels_wait shows me count walk left left_now got got_now got_mid waiting sofar went =
    flushed_longer (text_of shows me) (whole_text shows me) (levels_of me) (StandsFor me walk) count left left_now got got_now got_mid waiting sofar went (whole_is shows me)

-- No packet came any more, what waited went, and then the levels.
pub walk_done : (shows : Bool) (me : Receiver) (count : ℕ) (walk : Walk) (left left_now left_then got got_now got_mid got_then : Option (List ℕ)) (waiting none : List ℕ)
    → WalkedSoFar shows me count walk left left_now got got_now waiting
    → TakesRest count left_now left_then
    → Gains got_now got_mid waiting → none ≡ []
    → ((ps : List (List ℕ)) → Walks me walk ps → Gains got_mid got_then (none ++ levels_lines me ps))
    → Puts (whole_text shows me) left left_then got got_then
walk_done shows me count walk left left_now left_then got got_now got_mid got_then waiting none sofar rest went empty gains =
    let ps = packets sofar.taken in
    let P : List ℕ → Type 0 = λ waits. Gains got_mid got_then (waits ++ levels_of me ps) in
    run_ended (whole_text shows me) (StandsFor me walk) count left left_now left_then got got_mid got_then ([] ++ levels_of me ps)
    (levels_wait shows me count walk left left_now got got_now got_mid waiting sofar went)
    rest (subst P empty (gains (reverse ps) sofar.stands))

-- The same, and the write of the levels failed.
pub walk_done_failed : (shows : Bool) (me : Receiver) (count : ℕ) (walk : Walk) (left left_now left_then got got_now got_mid got_then : Option (List ℕ)) (waiting none : List ℕ)
    → WalkedSoFar shows me count walk left left_now got got_now waiting
    → TakesRest count left_now left_then
    → Gains got_now got_mid waiting → none ≡ []
    → ((ps : List (List ℕ)) → Walks me walk ps → GainsPrefix got_mid got_then (none ++ levels_lines me ps))
    → PutsPrefix (whole_text shows me) left left_then got got_then
walk_done_failed shows me count walk left left_now left_then got got_now got_mid got_then waiting none sofar rest went empty failed =
    let ps = packets sofar.taken in
    let P : List ℕ → Type 0 = λ waits. GainsPrefix got_mid got_then (waits ++ levels_of me ps) in
    run_failed (whole_text shows me) (StandsFor me walk) count left left_now left_then got got_mid got_then ([] ++ levels_of me ps)
    (levels_wait shows me count walk left left_now got got_now got_mid waiting sofar went)
    rest (subst P empty (failed (reverse ps) sofar.stands))
