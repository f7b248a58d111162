use Rattle.std.proofs.Common.{sym, subst}
use Rattle.pp.specs.inside.Stepping.{EndsAs}
use Rattle.pp.proofs.BranchLemmas.{none_of}
use Rattle.pp.proofs.FileLemmas.{still_goes, end_goes, end_missing}
use Rattle.pp.proofs.file.end_done.Goals as goal

pub returns-in-None : goal.returns-in-None
returns-in-None c names around o st =
    end_goes names c.args.state.now c.args.state.now c.args.file.now.run around c.args.file.now.conditionals o (none_of c.args.file.now.conditionals c.in-None.ensures) st
    (still_goes around.texts names c.args.state.now c.args.file.now.run.begun st.text st.now c.requires st.agrees)

pub returns-in-Some : goal.returns-in-Some
returns-in-Some c names around o st =
    subst (λ r. EndsAs c.args.state.now.given names r o) (sym c.unbalanced.ensures)
    (end_missing names c.args.state.now c.args.state.now c.args.file.now.run around c.args.file.now.conditionals c.in-Some.open o c.in-Some.ensures st
    (still_goes around.texts names c.args.state.now c.args.file.now.run.begun st.text st.now c.requires st.agrees))
