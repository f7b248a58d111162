use Rattle.std.proofs.Common.{length, ◌≡◌, ◌++◌, ◌∙◌, subst, rules}
use Rattle.std.specs.Prelude.{vec_len, OnOk}
use Rattle.frames.specs.Data.{filled_up}
use Rattle.frames.proofs.Filling.{put_filled}
use Rattle.frames.proofs.statics.put_literal.Goals as goal

pub returns : goal.returns
returns c =
    let old = c.args.bytes.now.items in
    let text = c.args.text.now in
    let before : vec_len c.args.bytes.now ≡ length old = search rules in
    let behind : vec_len c.extend_from_slice.new.self ≡ length c.extend_from_slice.new.self.items = search rules in
    subst (λ n. OnOk c.resize.result (c.resize.new.self.items ≡ old ++ filled_up n text)) c.in_words.ensures
    (put_filled c.resize.result old text c.extend_from_slice.new.self.items c.resize.new.self.items c.len-start.result c.in_words.result (vec_len c.extend_from_slice.new.self)
    c.in_ok-extend_from_slice.ensures.items (c.len-start.ensures ∙ before) behind c.resize.ensures.items)
