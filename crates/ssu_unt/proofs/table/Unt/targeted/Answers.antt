use Rattle.std.proofs.Common.{◌≡◌, ◌++◌, take, refl}
use Rattle.std.specs.Prelude.{map}
use Rattle.wire.specs.Items.{items_of}
use Rattle.ssu_unt.specs.Table.{platform}
use Rattle.ssu_unt.specs.Targeting.{all_pairs, pairs_in, targeted, targets}
use Rattle.ssu_unt.specs.Views.{entry_view, me_view, platform_view, unt_view}
use Rattle.ssu_unt.proofs.Keeping.{kept_seen, kept_more, targets-append}
use Rattle.ssu_unt.proofs.table.Unt.targeted.Goals as goal

pub loop-platform-preserved : goal.loop-platform-preserved
loop-platform-preserved c =
    let me = me_view c.args.me.now in
    let common = c.args.self.now.common.now in
    let before : take 32 (map entry_view c.loop-platform.entries.items ++ targets me common (all_pairs (items_of platform c.loop-platform.platform-iterator))) ≡ targeted me (unt_view c.args.self.now) = c.loop-platform.invariant.0 in
    let parts = targets-append me common (pairs_in (platform_view c.in-Some.platform)) (all_pairs (items_of platform c.next.new.self)) in
    let now = rw (c.in-Some.ensures.steps, parts) at before in
    (kept_more 32 _ _ (targets me common (pairs_in (platform_view c.in-Some.platform))) _ _ c.add_platform.ensures.entries now, c.add_platform.ensures.fit)

pub returns : goal.returns
returns c =
    let me = me_view c.args.me.now in
    let common = c.args.self.now.common.now in
    let before : take 32 (map entry_view c.loop-platform.entries.items ++ targets me common (all_pairs (items_of platform c.loop-platform.platform-iterator))) ≡ targeted me (unt_view c.args.self.now) = c.loop-platform.invariant.0 in
    kept_seen entry_view 32 c.loop-platform.entries.items _ _ c.loop-platform.invariant.1 (rw c.in-None.ensures.steps.0 refl) before
