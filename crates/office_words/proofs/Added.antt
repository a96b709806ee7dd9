-- Commands added one after the other.
use Rattle.std.proofs.Common.{◌≡◌, ◌∙◌, ap₂}
use Rattle.clap.specs.Words.{App}
use Rattle.office_words.specs.Line.{with_line}

-- one more command
pub more : (now before was line named : App) → now ≡ with_line before line → before ≡ was → line ≡ named → now ≡ with_line was named
more now before was line named is first second = is ∙ ap₂ with_line first second
