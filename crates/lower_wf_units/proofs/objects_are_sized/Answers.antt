use Rattle.lower_wf_units.proofs.Sized as laws
use Rattle.lower_wf_units.proofs.objects_are_sized.Goals as goal

pub returns : goal.returns
returns c = laws.objects_are_sized
