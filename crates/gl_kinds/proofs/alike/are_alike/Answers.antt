use Rattle.gl_kinds.proofs.alike.are_alike.Goals as goal

pub returns : goal.returns
returns c = (
  λ same. record { of_one_kind = c.are_of_one_kind.ensures.0 same; made = c.are_made_alike.ensures.0 c.if-not-are_made_alike.false },
  λ alike. c.are_of_one_kind.ensures.1 alike.of_one_kind,
)
