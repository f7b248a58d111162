use Rattle.frames_code.specs.Code.{frame_bytes, function_of}
use Rattle.cc_backend.proofs.Plain.{item_in_map, one_more_held}
use Rattle.cc_backend.proofs.sizes.put_sizes.Goals as goal

pub frame_bytes-requires : goal.frame_bytes-requires
frame_bytes-requires c =
    let x = c.function-item.result in
    c.requires c.loop-function.function-index (function_of x) (item_in_map function_of c.args.functions.now c.loop-function.function-index x c.loop-function-test.true c.function-item.is)

pub loop-function-preserved : goal.loop-function-preserved
loop-function-preserved c =
    one_more_held function_of frame_bytes c.args.functions.now c.loop-function.function-index c.function-item.result c.frame_bytes.result
    c.loop-function.sizes.items c.push.new.self.items _ c.loop-function-test.true c.function-item.is c.in_ok-push.ensures.items c.frame_bytes.ensures c.loop-function.invariant
