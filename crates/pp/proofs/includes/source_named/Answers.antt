use Rattle.std.proofs.Common.{subst}
use Rattle.std.proofs.lemmas.Option.{slice_get_within}
use Rattle.pp.specs.Phase4.{file_meant}
use Rattle.pp.specs.inside.Including.{IsMeant}
use Rattle.pp.proofs.IncludeLemmas.{not_found, no_room, room_for, positive}
use Rattle.pp.proofs.includes.source_named.Goals as goal

pub returns-in_default-clause-enters : goal.returns-in_default-clause-enters
returns-in_default-clause-enters c texts s keeps =
    not_found c.args.room c.args.set.now texts c.args.spelling.now c.args.at s
    (subst (λ x. IsMeant c.file_meant.new.names x (file_meant c.args.set.now c.args.spelling.now)) c.in_default.is c.in_ok-source.ensures.ok)

pub returns-then-room-eq0-clause-enters : goal.returns-then-room-eq0-clause-enters
returns-then-room-eq0-clause-enters c texts s keeps =
    no_room c.file_meant.new.names c.in-Some.source c.args.room c.args.set.now texts c.args.spelling.now c.args.at s c.if-room-eq0.true (subst (λ x. IsMeant c.file_meant.new.names x (file_meant c.args.set.now c.args.spelling.now)) c.in-Some.is c.in_ok-source.ensures.ok)

pub returns-clause-enters : goal.returns-clause-enters
returns-clause-enters c texts s keeps =
    room_for c.args.room c.file_meant.new.names c.in-Some.source c.args.set.now texts c.args.spelling.now c.args.at s c.if-room-eq0.false keeps (subst (λ x. IsMeant c.file_meant.new.names x (file_meant c.args.set.now c.args.spelling.now)) c.in-Some.is c.in_ok-source.ensures.ok)

pub returns-clause-ok : goal.returns-clause-ok
returns-clause-ok c =
    let m = (subst (λ x. IsMeant c.file_meant.new.names x (file_meant c.args.set.now c.args.spelling.now)) c.in-Some.is c.in_ok-source.ensures.ok) in
    record {
      has_file = slice_get_within c.file_meant.new.names c.in-Some.source.name m.name m.number_is.text_is;
      small = m.small;
      has_room = positive c.args.room c.if-room-eq0.false;
    }
