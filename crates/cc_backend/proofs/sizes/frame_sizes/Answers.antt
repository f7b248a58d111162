use Rattle.std.proofs.Common.{◌≡◌, map, slice_get, Some, subst}
use Rattle.frames_code.specs.Code.{function_of}
use Rattle.cc_backend.proofs.sizes.frame_sizes.Goals as goal

pub put_sizes-requires : goal.put_sizes-requires
put_sizes-requires c = λ k f there. (c.requires.each k f (subst (λ xs. slice_get (map function_of xs) k ≡ Some f) c.deref.ensures.value there)).small
