-- How single calls of a port join.
use Rattle.std.proofs.Common.{ℕ, ◌<◌, List, [], ◌∷◌, ◌++◌, take, length, Option, Some, None, refl, sym, ap, ◌∙◌, append_assoc, append-nil}
use Rattle.std.specs.Io.KnownBytes.{Keeps, Appends}
use Rattle.io_ports.specs.Port.{PortView, Puts, IsRefused}
use Rattle.cc.specs.Transfer.{PutsAll, PutsSome}

pub keeps_itself : (a : Option (List ℕ)) → Keeps a a
keeps_itself None = tt
keeps_itself (Some x) = refl

pub keeps_twice : (a b c : Option (List ℕ)) → Keeps a b → Keeps b c → Keeps a c
keeps_twice None b c p q = tt
keeps_twice (Some x) None c p q = absurd p
keeps_twice (Some x) (Some y) None p q = absurd q
keeps_twice (Some x) (Some y) (Some z) p q = q ∙ p

pub appends_none : (a : Option (List ℕ)) → Appends a a []
appends_none None = tt
appends_none (Some x) = sym (append-nil x)

pub appends_twice : (a b c : Option (List ℕ)) (xs ys : List ℕ) → Appends a b xs → Appends b c ys → Appends a c (xs ++ ys)
appends_twice None b c xs ys p q = tt
appends_twice (Some x) None c xs ys p q = absurd p
appends_twice (Some x) (Some y) None xs ys p q = absurd q
appends_twice (Some x) (Some y) (Some z) xs ys p q = q ∙ ap (λ l. l ++ ys) p ∙ append_assoc x xs ys

pub appends_kept : (a b c : Option (List ℕ)) (xs : List ℕ) → Appends a b xs → Keeps b c → Appends a c xs
appends_kept None b c xs p q = tt
appends_kept (Some x) None c xs p q = absurd p
appends_kept (Some x) (Some y) None xs p q = absurd q
appends_kept (Some x) (Some y) (Some z) xs p q = q ∙ p

pub puts_none : (a : PortView) → PutsAll a a []
puts_none a = record { input_stays = keeps_itself a.input; output_grows = appends_none a.output; not_counted = refl }

pub puts_more : (a b c : PortView) (xs : List ℕ) (y : ℕ) → PutsAll a b xs → Puts b c y → PutsAll a c (xs ++ y ∷ [])
puts_more a b c xs y all more = record {
  input_stays = keeps_twice a.input b.input c.input all.input_stays more.input_stays;
  output_grows = appends_twice a.output b.output c.output xs (y ∷ []) all.output_grows more.output_grows;
  not_counted = more.not_counted ∙ all.not_counted;
}

pub puts_stop : (a b c : PortView) (bytes : List ℕ) (k : ℕ) → PutsAll a b (take k bytes) → IsRefused b c → k < length bytes → PutsSome a c bytes k
puts_stop a b c bytes k all refused room = record {
  fewer = room;
  input_stays = keeps_twice a.input b.input c.input all.input_stays refused.input_stays;
  output_grows = appends_kept a.output b.output c.output (take k bytes) all.output_grows refused.output_stays;
  counted = rw (← all.not_counted) refused.counted;
}
