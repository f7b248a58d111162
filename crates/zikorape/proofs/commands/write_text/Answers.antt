use Rattle.std.proofs.Common.{rules, ◌≡◌, ℕ, [], Some, ap, refl, subst, ◌∙◌}
use Rattle.io_ports.specs.Port.{PortView}
use Rattle.io_ports.specs.Memory.{port_of}
use Rattle.cc.specs.MemoryMap.{usual_stack}
use Rattle.cc.specs.Performed.{Performs}
use Rattle.cc.specs.Reported.{Said}
use Rattle.zikorape.specs.Got.{Buffer, Got, HandsOut}
use Rattle.zikorape.specs.Answered.{Writes, for_memory, whole}
use Rattle.zikorape.proofs.HandingOut.{handed}
use Rattle.zikorape.proofs.Performing.{performed}
use Rattle.zikorape.proofs.commands.write_text.Goals as goal

pub returns : goal.returns
returns c =
    let status : ℕ = c.perform-status.result in
    let out : Buffer = record { before = c.args.out.now; after = c.hand_out.new.out; told = c.hand_out.new.sizes.output } in
    let message : Buffer = record { before = c.args.message.now; after = c.hand_out.new.message; told = c.hand_out.new.sizes.message } in
    let P : ℕ → PortView → Said → Said → Type 0 = λ stack port text line.
    Performs stack c.args.command c.args.set.now c.args.main.now [] for_memory port (port_of c.perform-status.new.port) text line status in
    let text : Said = record { before = Some c.new-text.result.items; after = Some c.perform-status.new.out.items } in
    let line : Said = record { before = Some c.new-line.result.items; after = Some c.perform-status.new.err.items } in
    let Q : ℕ → Type 0 = λ n. HandsOut (Writes c.args.command c.args.main.now n c.args.set.now) out message in
    let same : status ≡ c.from.result = search rules in
    subst Q same (
    handed _ out message _ (whole status c.perform-status.new.out.items) c.perform-status.new.err.items
    (c.whole-written.ensures ∙ ap (whole status) c.as_slice.ensures.value)
    c.hand_out.ensures.output
    (subst (Got message) c.as_slice-2.ensures.value c.hand_out.ensures.message) (
      c.perform-status.new.out.items,
      (
        c.perform-status.new.port,
        performed (P usual_stack) _ _ _ _ _ _ c.new-port.ensures c.new.ensures.items c.new-text.ensures.items c.new-line.ensures.items
            (subst (λ n. P n (port_of c.new-port.result) text line) c.usual-stack.ensures c.perform-status.ensures),
        refl,
      ),
    )
    )
