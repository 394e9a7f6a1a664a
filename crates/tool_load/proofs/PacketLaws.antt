-- What packets that come one after the other leave of the search.
use Rattle.std.proofs.Common.{◌≡◌, ℕ, ◌+◌, ◌*◌, ◌<◌, List, [], ◌∷◌, ◌++◌, length, reverse, Option, refl, sym, ap, subst, ◌∙◌, arith, length-append}
use Rattle.std.proofs.lemmas.List.{reverse-append}
use Rattle.ssu_io.specs.Bytes.{Takes}
use Rattle.ssu_io.proofs.BytesLemmas.{Takes_none, Takes_join}
use Rattle.ts_input.specs.Input.{TakesPackets}
use Rattle.ts_input.specs.Packets.{packets}
use Rattle.ts_input.proofs.PacketLemmas.{packets_more, packets_of_rest}
use Rattle.ts_section.specs.declared.hearer.Hearer.{Hearer}
use Rattle.ts_section.specs.Events.{Event, Listen, Feed, heard, heard_of, fed}
use Rattle.ts_section.specs.Hearing.{Hears}
use Rattle.ts_section.proofs.HearSteps.{fed-push, heard_of-push}
use Rattle.tool_load.specs.declared.progress.Progress.{Progress}
use Rattle.tool_load.specs.Load.{first_with_later, IsReached, HearsIn, HearsAtPacket, sections_of}
use Rattle.tool_load.specs.Progress.{StandsFor, Follows}

-- ---- sections of packets

abbrev listening : ℕ → List Event
listening pid = Listen (pid ∷ []) ∷ []

pub sections_none : (pid : ℕ) → sections_of pid [] ≡ []
unfolding sections_of heard_of
sections_none pid = refl

fed_none : (pid : ℕ) → fed (listening pid) [] ≡ listening pid
unfolding fed
fed_none pid = refl

pub sections_more : (pid : ℕ) (ps : List (List ℕ)) (packet : List ℕ)
    → sections_of pid (ps ++ packet ∷ []) ≡ reverse (heard (Feed packet ∷ fed (listening pid) ps)) ++ sections_of pid ps
unfolding sections_of
sections_more pid ps packet =
    ap reverse (heard_of-push (listening pid) ps packet)
    ∙ reverse-append (heard_of (listening pid) ps) (heard (Feed packet ∷ fed (listening pid) ps))

no_section_reached : IsReached [] → ⊥
unfolding first_with_later
no_section_reached is = let by_dsi = is.chooses.by_dsi in cc

-- ---- one packet

-- the search with the sections of one packet more
pub heard_packet : (pid : ℕ) (ps : List (List ℕ)) (packet : List ℕ) (each : List (List ℕ)) (P : List (List ℕ) → Type 0)
    → each ≡ heard (Feed packet ∷ fed (listening pid) ps) → P (reverse each ++ sections_of pid ps) → P (sections_of pid (ps ++ packet ∷ []))
heard_packet pid ps packet each P is p =
    subst P (ap (λ (xs : List (List ℕ)). reverse xs ++ sections_of pid ps) is ∙ sym (sections_more pid ps packet)) p

pub follows_more : (pid : ℕ) (hearer : Hearer) (progress : Progress) (ps : List (List ℕ)) (packet : List ℕ)
    → Hears hearer (Feed packet ∷ fed (listening pid) ps) → StandsFor progress (sections_of pid (ps ++ packet ∷ [])) → (IsReached (sections_of pid (ps ++ packet ∷ [])) → ⊥)
    → Follows pid hearer progress (ps ++ packet ∷ [])
follows_more pid hearer progress ps packet hears stands not_reached = record {
  hears = subst (Hears hearer) (sym (fed-push (listening pid) ps packet)) hears;
  stands = stands;
  not_reached = not_reached;
}

-- ---- the input so far

-- So many packets were taken, and the search stands for their sections.
pub record SoFar (pid count : ℕ) (hearer : Hearer) (progress : Progress) (left left_now : Option (List ℕ)) : Type 0 where
  pub taken : List ℕ
  pub takes : Takes left left_now taken
  pub whole : length taken ≡ 188 * count
  pub follows : Follows pid hearer progress (packets taken)

pub so_far_none : (pid : ℕ) (hearer : Hearer) (progress : Progress) (left : Option (List ℕ)) → Hears hearer (Listen (pid ∷ []) ∷ []) → StandsFor progress []
    → SoFar pid 0 hearer progress left left
so_far_none pid hearer progress left hears stands =
    let no_packets : packets [] ≡ [] = packets_of_rest [] (omega arith) in
    let no_calls : listening pid ≡ fed (listening pid) (packets []) = sym (ap (fed (listening pid)) no_packets ∙ fed_none pid) in
    let nothing : [] ≡ sections_of pid (packets []) = sym (ap (sections_of pid) no_packets ∙ sections_none pid) in
    record {
      taken = [];
      takes = Takes_none left;
      whole = omega arith;
      follows = record {
        hears = subst (Hears hearer) no_calls hears;
        stands = subst (StandsFor progress) nothing stands;
        not_reached = subst (λ (xs : List (List ℕ)). IsReached xs → ⊥) nothing no_section_reached;
      };
    }

pub so_far_more : (pid count : ℕ) (h h' : Hearer) (p p' : Progress) (left left_now left_then : Option (List ℕ)) (packet : List ℕ)
    → (sofar : SoFar pid count h p left left_now) → Takes left_now left_then packet → length packet ≡ 188
    → Follows pid h' p' (packets sofar.taken ++ packet ∷ []) → SoFar pid (count + 1) h' p' left left_then
so_far_more pid count h h' p p' left left_now left_then packet sofar takes one follows = record {
  taken = sofar.taken ++ packet;
  takes = Takes_join left left_now left_then sofar.taken packet sofar.takes takes;
  whole = omega (arith, length-append sofar.taken packet, sofar.whole, one);
  follows = subst (Follows pid h' p') (sym (packets_more sofar.taken packet count sofar.whole one)) follows;
}

-- an answer at a packet
pub at_packet : (pid count : ℕ) (h : Hearer) (p : Progress) (left left_now left_then : Option (List ℕ)) (packet : List ℕ) (Now Before : List (List ℕ) → Type 0)
    → (sofar : SoFar pid count h p left left_now) → Takes left_now left_then packet → length packet ≡ 188 → count < 16777216
    → Now (sections_of pid (packets sofar.taken ++ packet ∷ [])) → Before (sections_of pid (packets sofar.taken))
    → HearsAtPacket pid left left_then Now Before
at_packet pid count h p left left_now left_then packet Now Before sofar takes one few now before = record {
  count = count;
  earlier = sofar.taken;
  packet = packet;
  takes = Takes_join left left_now left_then sofar.taken packet sofar.takes takes;
  whole = sofar.whole;
  within = few;
  one = one;
  now = subst (λ (ps : List (List ℕ)). Now (sections_of pid ps)) (sym (packets_more sofar.taken packet count sofar.whole one)) now;
  before = before;
}

-- an answer once no packet came any more
pub at_end : (pid : ℕ) (Size : ℕ → Type 0) (left left_then : Option (List ℕ)) (ps : List (List ℕ)) (Now : List (List ℕ) → Type 0)
    → TakesPackets Size left left_then ps → Now (sections_of pid ps) → HearsIn pid left left_then Size Now
at_end pid Size left left_then ps Now all now = record {
  taken = all.taken;
  takes = all.takes;
  bytes = all.size;
  now = subst (λ (qs : List (List ℕ)). Now (sections_of pid qs)) (sym all.all) now;
}
