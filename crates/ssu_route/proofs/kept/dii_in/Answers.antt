use Rattle.std.proofs.Common.{◌≡◌, ◌≤◌, length, Option, Some, None}
use Rattle.std.specs.Prelude.{IfSome}
use Rattle.dsmcc_msg.specs.Control.{DiiFields, dii}
use Rattle.dsmcc_msg.proofs.Exact.{dii_exact}
use Rattle.ssu_route.specs.Offers.{dii_of}
use Rattle.ssu_route.proofs.Accepting.{read_is}
use Rattle.ssu_route.proofs.Messages.{message_read, message_short}
use Rattle.ssu_route.proofs.kept.dii_in.Goals as goal

each : (P Q : DiiFields → Type 0) → ((d : DiiFields) → P d → Q d) → (o : Option DiiFields) → IfSome o P → IfSome o Q
each P Q f None h = h
each P Q f (Some d) h = f d h

pub returns-clause-exact : goal.returns-clause-exact
returns-clause-exact c = read_is dii dii_exact c.args.section.now c.read.result c.read.ensures.found c.read.ensures.only

pub returns-clause-read : goal.returns-clause-read
returns-clause-read c =
    each (λ d. dii.Spells d c.args.section.now) (λ d. dii_of d.message ≡ Some d) (λ d s. message_read d c.args.section.now s) c.read.result c.read.ensures.found

pub returns-clause-short : goal.returns-clause-short
returns-clause-short c =
    each (λ d. dii.Spells d c.args.section.now) (λ d. length d.message ≤ 4084) (λ d s. message_short d c.args.section.now s) c.read.result c.read.ensures.found
