-- The added file is the last one.
use Rattle.std.proofs.Common.{rules, ◌≡◌, ◌∷◌, ◌++◌, [], List, refl, ap, ◌∙◌}
use Rattle.std.specs.Prelude.{string_bytes}
use Rattle.ssu_io.specs.Files.{File, bytes_of}
use Rattle.ssu_io.proofs.FilesLemmas.{bytes_of_added, bytes_of_others}
use Rattle.ssu_io.proofs.mem_shelf.MemShelf.add.Goals as goal

pub returns-clause-replaced : goal.returns-clause-replaced
returns-clause-replaced c =
    let file : File = record { name = string_bytes c.in_ok-name.name; bytes = c.args.bytes.items } in
    let now : c.push.new.self.items ≡ c.args.self.now.files ++ file ∷ [] = search rules in
    ap (λ (files : List File). bytes_of files c.args.name.now) now
    ∙ bytes_of_added c.args.self.now.files file c.args.name.now c.args.bytes.items (search rules) refl

pub returns-clause-others : goal.returns-clause-others
returns-clause-others c = λ other differs.
    let file : File = record { name = string_bytes c.in_ok-name.name; bytes = c.args.bytes.items } in
    let now : c.push.new.self.items ≡ c.args.self.now.files ++ file ∷ [] = search rules in
    ap (λ (files : List File). bytes_of files other) now
    ∙ bytes_of_others c.args.self.now.files file c.args.name.now other (search rules) differs
