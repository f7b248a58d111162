-- The effect of a command over a port and writers that were new.
use Rattle.std.proofs.Common.{◌≡◌, ℕ, List, [], Some, subst}
use Rattle.io_ports.specs.Port.{PortView}
use Rattle.io_ports.specs.Memory.{MemoryView, port_of}
use Rattle.cc.specs.Reported.{Said}
use Rattle.zikorape.specs.Answered.{fresh, said}

abbrev said_from : List ℕ → List ℕ → Said
said_from before after = record { before = Some before; after = Some after }

abbrev port_from : List ℕ → MemoryView
port_from input = record { input = input; output = []; room = 0; failures = 0 }

pub performed : (P : PortView → Said → Said → Type 0) (port : MemoryView) (input texts lines written line : List ℕ)
    → port ≡ port_from input → input ≡ [] → texts ≡ [] → lines ≡ []
    → P (port_of port) (said_from texts written) (said_from lines line) → P (fresh []) (said written) (said line)
performed P port input texts lines written line e f g h m =
    let a = subst (λ (p : MemoryView). P (port_of p) (said_from texts written) (said_from lines line)) e m in
    let b = subst (λ (i : List ℕ). P (port_of (port_from i)) (said_from texts written) (said_from lines line)) f a in
    let d = subst (λ (t : List ℕ). P (fresh []) (said_from t written) (said_from lines line)) g b in
    subst (λ (l : List ℕ). P (fresh []) (said written) (said_from l line)) h d
