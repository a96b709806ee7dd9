-- Why words ask for no job, as a text.
use Rattle.std.specs.Prelude.{ℕ, List, codes}
use Rattle.office_words.specs.declared.job.WordFault.{WordFault}
use Rattle.office_words.specs.declared.job.WordFault.TheVariants.{Words, Memory}

abbrev pub fault_text : WordFault → List ℕ
fault_text Words = codes "command"
fault_text Memory = codes "memory"
