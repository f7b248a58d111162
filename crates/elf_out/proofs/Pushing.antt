-- Bytes pushed one after another.
use Rattle.std.proofs.Common.{ℕ, ◌≡◌, ◌≤◌, ◌+◌, ◌-◌, List, ◌++◌, length, take, refl, ap, ◌∙◌, append_assoc, arith, length-append}
use Rattle.std.specs.Prelude.{replicate}
use Rattle.std.proofs.lemmas.List.{take_all}
use Rattle.memory_map.specs.MemoryMap.{data_start, data_offset}
use Rattle.elf_out.specs.Layout.{Parts}
use Rattle.elf_out.specs.Written.{headers_of, file_of, zeros}

pub pushed_four : (s a b c d s1 s2 s3 s4 : List ℕ) → s1 ≡ s ++ a → s2 ≡ s1 ++ b → s3 ≡ s2 ++ c → s4 ≡ s3 ++ d → s4 ≡ s ++ (a ++ b ++ c ++ d)
pushed_four s a b c d s1 s2 s3 s4 e f g h = rw (h, g, f, e) (simp append_assoc)

pub length-headers_of : (n m s : ℕ) → length (headers_of n m s) ≡ 148
unfolding headers_of
length-headers_of n m s = refl

-- a list made longer by zeros
pub resized : (n k : ℕ) (s s' : List ℕ) → k ≡ length s → k ≤ n → s' ≡ take n s ++ replicate (n - k) 0 → s' ≡ s ++ zeros (n - k)
resized n k s s' e h r =
    let t : take n s ≡ s = take_all n s (omega arith) in
    r ∙ ap (λ xs. xs ++ zeros (n - k)) t

-- the whole file
pub file_made : (p : Parts) (s1 s2 s3 s4 s5 : List ℕ) (k1 k3 o : ℕ) → length p.text ≤ 117440512 → o ≡ data_offset (length p.text) → k1 ≡ length s1 → k3 ≡ length s3 →
    s1 ≡ headers_of (length p.text) (length p.statics) p.stack →
    s2 ≡ take 0x1000 s1 ++ replicate (0x1000 - k1) 0 → s3 ≡ s2 ++ p.text →
    s4 ≡ take o s3 ++ replicate (o - k3) 0 →
    s5 ≡ s4 ++ p.statics → s5 ≡ file_of p
unfolding file_of
file_made p s1 s2 s3 s4 s5 k1 k3 o fits at l1 l3 e1 e2 e3 e4 e5 =
    let n = length p.text in
    let h = headers_of n (length p.statics) p.stack in
    let c1 : k1 ≡ 148 = l1 ∙ ap length e1 ∙ length-headers_of n (length p.statics) p.stack in
    let t2 : s2 ≡ s1 ++ zeros (0x1000 - k1) = resized 0x1000 k1 s1 s2 l1 (omega arith) e2 in
    let z2 : zeros (0x1000 - k1) ≡ zeros (0x1000 - 148) = ap (λ k. zeros (0x1000 - k)) c1 in
    let f2 : s2 ≡ h ++ zeros (0x1000 - 148) = t2 ∙ ap (λ z. s1 ++ z) z2 ∙ ap (λ s. s ++ zeros (0x1000 - 148)) e1 in
    let n2 : length s2 ≡ 0x1000 = ap length f2 ∙ length-append h (zeros (0x1000 - 148)) ∙ ap (λ k. k + (0x1000 - 148)) (length-headers_of n (length p.statics) p.stack) in
    let c3 : k3 ≡ 0x1000 + n = l3 ∙ ap length e3 ∙ length-append s2 p.text ∙ ap (λ k. k + n) n2 in
    let t4 : s4 ≡ s3 ++ zeros (o - k3) = resized o k3 s3 s4 l3 (omega arith) e4 in
    let w : o - k3 ≡ data_start n - (0x11000 + n) = omega arith in
    let f4 : s4 ≡ h ++ zeros (0x1000 - 148) ++ p.text ++ zeros (data_start n - (0x11000 + n)) = t4 ∙ ap (λ k. s3 ++ zeros k) w ∙ ap (λ s. s ++ zeros (data_start n - (0x11000 + n))) (e3 ∙ ap (λ s. s ++ p.text) f2) in
    e5 ∙ ap (λ s. s ++ p.statics) f4
