use Rattle.std.proofs.Common.{◌≡◌, ◌++◌, drop, map}
use Rattle.frames_code.specs.Code.{frame_bytes, function_of}
use Rattle.cc_backend.proofs.sizes.put_sizes.Given as goal

abbrev pub invariant-loop-function : goal.invariant-loop-function
invariant-loop-function l =
    l.sizes.items ++ map frame_bytes (map function_of (drop l.function-index l.functions)) ≡ l.initial.sizes.items ++ map frame_bytes (map function_of l.functions)
