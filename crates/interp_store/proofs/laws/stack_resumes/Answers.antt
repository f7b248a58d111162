use Rattle.interp_store.proofs.Resumes.{resume_more}
use Rattle.interp_store.proofs.laws.stack_resumes.Goals as goal

pub returns : goal.returns
returns c = resume_more
