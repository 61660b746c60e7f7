-- How a refusal of the permutations prints. Assumes nothing.
use Rattle.std.specs.Prelude.{ℕ, List, ◌++◌, codes, decimal}
use Rattle.permutations.specs.declared.fault.PageFault.{PageFault}
use Rattle.permutations.specs.declared.fault.PageFault.TheVariants.{TooManySteps, BufferShort}

-- refused N layer Y record 0 place 0
abbrev pub refused_text : ℕ → ℕ → List ℕ
refused_text number layer = codes "refused " ++ (decimal number ++ (codes " layer " ++ (decimal layer ++ codes " record 0 place 0")))

-- the number of the question that a page got a no to
abbrev pub page_number : PageFault → ℕ
page_number TooManySteps = 21
page_number BufferShort = 4
