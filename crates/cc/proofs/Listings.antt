-- A listing that was written, or not whole.
use Rattle.std.proofs.Common.{ℕ, List, inl, inr}
use Rattle.std.specs.Prelude.{Result, Ok, Err, OnOk, IfErr, MatchResult}
use Rattle.srcset.specs.Files.{Files}
use Rattle.srcset.specs.declared.fault.Fault.{Fault}
use Rattle.memory_map.specs.MemoryMap.{text_start}
use Rattle.asm.specs.declared.item.Item.{Item}
use Rattle.asm.specs.Listing.{Lists}
use Rattle.asm.specs.Refusals.{IsListRefused}
use Rattle.cc.specs.declared.compiling.Built.{Built}
use Rattle.cc.specs.Made.{IsListed}
use Rattle.cc.specs.Reported.{Said}
use Rattle.cc.specs.Performed.{ListsAll, FailsList}

module _ (stack : ℕ) (set : Files) (name : List ℕ) (built : Built) (items : List Item) (out : Said) (is : IsListed stack set name built items) where
  -- each jump reaches, so that only memory or the writer refuses
  fails : (fault : Fault) → IsListRefused text_start items out.before out.after fault → FailsList stack set name out fault
  fails fault (inl (inl misses, same)) = absurd (is.reach misses.1)
  fails fault (inl (inr m, same)) = inr (record { built = built; items = items; listed = is; refused = inl (m, same) })
  fails fault (inr w) = inr (record { built = built; items = items; listed = is; refused = inr w })

  pub list_means : {U : Type 0} (r : Result U Fault) → OnOk r (Lists text_start items out.before out.after) → IfErr r (IsListRefused text_start items out.before out.after)
      → MatchResult r (λ _. ListsAll stack set name out) (FailsList stack set name out)
  list_means (Ok u) done refused = record { built = built; items = items; listed = is; lists = done }
  list_means (Err fault) done refused = fails fault refused
