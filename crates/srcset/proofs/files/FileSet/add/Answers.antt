use Rattle.std.proofs.Common.{◌≡◌, [], ◌∷◌, ◌++◌, sym, ap, ◌∙◌, None}
use Rattle.srcset.specs.Files.{add_fault, IsFileMap}
use Rattle.srcset.proofs.FileLemmas.{files_of, files_of-insert, accepted, file_map_push}
use Rattle.srcset.proofs.files.FileSet.add.Goals as goal

-- the file passed each test
tested : (c : goal.Joined-this) → add_fault c.args.self.now c.args.name.now c.args.bytes.items ≡ None
tested c = sym (c.add_fault_code.ensures c.args.bytes.items (sym c.args.bytes.ok.0 ∙ sym c.len.ensures)) ∙ c.in_default.is

grown : (c : goal.Joined-this) → files_of c.insert.new.self.entries ≡ c.args.self.now ++ (c.args.name.now, c.args.bytes.items) ∷ []
grown c =
    let fits = accepted c.args.self.now c.args.name.now c.args.bytes.items (tested c) in
    ap files_of c.in-Ok-insert.ensures.entries
    ∙ files_of-insert c.self.inside.files c.in-Ok.key c.args.bytes c.args.name.now c.in-Ok.ensures.ok (rw c.self.view_is fits.0)
    ∙ ap (λ files. files ++ (c.args.name.now, c.args.bytes.items) ∷ []) c.self.view_is

-- the set is still a map
still_map : (c : goal.Joined-this) → IsFileMap (files_of c.insert.new.self.entries)
still_map c = rw (grown c) (file_map_push c.args.self.now c.args.name.now c.args.bytes.items (rw (← c.self.view_is) c.self.invariant) (tested c))

pub invariant_of-self-2 : goal.invariant_of-self-2
invariant_of-self-2 c = still_map c

pub returns-clause-ok : goal.returns-clause-ok
returns-clause-ok c = grown c

pub returns-clause-once : goal.returns-clause-once
returns-clause-once c = (still_map c).2
