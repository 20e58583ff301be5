-- The members of a class, by their numbers in the table of members.
use Rattle.std.specs.Prelude.{◌+◌}
use Rattle.spec.specs.Image.{Class}
use Rattle.image.specs.declared.Span.{Span}

abbrev pub member_span : Class → Span
member_span c = record { from = c.first; to = c.first + c.count }
