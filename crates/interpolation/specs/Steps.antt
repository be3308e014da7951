-- The program's own way of saying what a text goes on with.
use Rattle.std.specs.Prelude.{◌≡◌, ℕ, List, ◌++◌, Option, Some, None}
use Rattle.interpolation.specs.declared.part.Part.{Part}
use Rattle.interpolation.specs.declared.splitting.Next as steps
use Rattle.interpolation.specs.declared.splitting.Next.TheVariants as step
use Rattle.interpolation.specs.Parts.{Next, Last, Dollar, Named, next_of, split}

abbrev pub next_view : steps.Next → Next
next_view step.Last = Last
next_view (step.Dollar before further) = Dollar before.now further.now
next_view (step.Named before name further) = Named before.now name.now further.now

-- a list after what a text goes on with, whatever is made of what follows
abbrev pub Goes : List Part → List Part → List ℕ → Option (List ℕ) → Type 0
Goes before after text None = (further : List ℕ → List Part) → after ≡ before ++ split further text (next_of text)
Goes before after text (Some rest) = (further : List ℕ → List Part) → after ++ further rest ≡ before ++ split further text (next_of text)
