use Rattle.std.proofs.Common.{inl}
use Rattle.parser_declarations.proofs.declarations.text_end.Goals as goal

pub returns-clause-ok : goal.returns-clause-ok
returns-clause-ok c = (_, _, _, inl c.in_ok-rest.ensures.ok, inl (_, c.in-Some.ensures), inl c.in_ok-rest-2.ensures.ok, inl c.in_ok-rest-3.ensures.ok)
