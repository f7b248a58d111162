-- Headers read one after another.
use Rattle.std.proofs.Common.{ℕ, ◌≡◌, ◌<◌, ◌+◌, ◌-◌, ◌*◌, suc, List, ◌++◌, arith, append_assoc}
use Rattle.loader.specs.declared.header.LoadHeader.{LoadHeader}
use Rattle.loader.specs.File.{loads_from, loads_at}

-- one more of the headers that are left
pub one_more : (file : List ℕ) (at k count : ℕ) (items next whole : List LoadHeader) → k < count → items ++ loads_from file (at + 32 * k) (count - k) ≡ whole → next ≡ items ++ loads_at file (at + 32 * k) → next ++ loads_from file (at + 32 * (k + 1)) (count - (k + 1)) ≡ whole
one_more file at k count items next whole lt h e =
    let left : count - k ≡ suc (count - (k + 1)) = omega arith in
    let place : at + 32 * (k + 1) ≡ at + 32 * k + 32 = omega arith in
    let h' : items ++ loads_from file (at + 32 * k) (suc (count - (k + 1))) ≡ whole = rw left at h in
    rw (e, place, append_assoc) h'
