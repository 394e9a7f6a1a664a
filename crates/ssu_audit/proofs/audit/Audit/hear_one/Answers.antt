use Rattle.std.proofs.Common.{◌≡◌, ℕ, ◌+◌, ◌-◌, ◌^◌, min, Bool, true, map, ◌∷◌, sym, subst, arith}
use Rattle.std.specs.HashMap.{hash_map_len}
use Rattle.std.specs.Option.{option_map}
use Rattle.ssu_audit.specs.Kept.{block_at, dii_at, kept_of}
use Rattle.ssu_audit.specs.Standing.{Holds}
use Rattle.ssu_audit.proofs.Holding.{holds-notice, keys_few}
use Rattle.ssu_audit.proofs.audit.Audit.hear_one.Goals as goal

pub returns-then-notice-clause-stands : goal.returns-then-notice-clause-stands
returns-then-notice-clause-stands c = λ calls stands none.
    let a = c.args.self.now in
    let section = c.args.section.now in
    let counted : min (a.heard + 1) (2 ^ 64 - 1) ≡ c.saturating_add-self.result = sym c.saturating_add-self.ensures in
    let said = holds-notice calls a.heard (option_map kept_of a.dsi) (dii_at a.diis) (block_at a.blocks) (hash_map_len a.blocks) (map kept_of a.notices.items) stands
    section (map kept_of c.hear_notice.new.notices.items) c.in_ok-hear_notice.ensures.kept in
    let numbered = subst (λ (n : ℕ). Holds (record { notice = true; section = section } ∷ calls) n (option_map kept_of a.dsi) (dii_at a.diis) (block_at a.blocks) (hash_map_len a.blocks)
    (map kept_of c.hear_notice.new.notices.items)) counted said in
    subst (λ (b : Bool). Holds (record { notice = b; section = section } ∷ calls) c.saturating_add-self.result (option_map kept_of a.dsi) (dii_at a.diis) (block_at a.blocks) (hash_map_len a.blocks)
    (map kept_of c.hear_notice.new.notices.items)) (sym c.if-notice.true) numbered

pub hear_in_carousel-requires : goal.hear_in_carousel-requires
hear_in_carousel-requires c =
    let stands = c.requires.usable.1 in
    let few = keys_few c.requires.usable.0 stands.undecided in
    let same = stands.different in
    record { few = omega arith; block = c.requires.block }
