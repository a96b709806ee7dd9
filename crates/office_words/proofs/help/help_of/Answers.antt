use Rattle.std.proofs.Common.{◌∙◌, ap, map, String, Global, string_bytes, sym, inl, inr, refl}
use Rattle.clap.specs.Words.{app_of, kind_of}
use Rattle.clap.specs.declared.error.kind.ErrorKind.TheVariants.{DisplayHelp, DisplayVersion}
use Rattle.office_words.specs.Line.{line_of}
use Rattle.office_words.proofs.Parsing.{shown, taken}
use Rattle.office_words.proofs.help.help_of.Goals as goal

pub returns-in-DisplayHelp-clause-asked : goal.returns-in-DisplayHelp-clause-asked
unfolding line_of
returns-in-DisplayHelp-clause-asked c =
    let at = ap (map (λ (w : String Global). string_bytes w)) c.as_slice.ensures.value in
    elim c.in-DisplayHelp.is [
      | inl help ↦ inl (shown (app_of c.in_ok-command.command) _ _ c.in-Err.error DisplayHelp c.in-Err.ensures.kinds c.in_ok-command.ensures at (sym c.kind.ensures ∙ help) (λ bad. cc))
      | inr version ↦ inr (shown (app_of c.in_ok-command.command) _ _ c.in-Err.error DisplayVersion c.in-Err.ensures.kinds c.in_ok-command.ensures at (sym c.kind.ensures ∙ version) (λ bad. cc))
    ]

pub returns-in-Ok-clause-not_asked : goal.returns-in-Ok-clause-not_asked
unfolding line_of
returns-in-Ok-clause-not_asked c =
    let at = ap (map (λ (w : String Global). string_bytes w)) c.as_slice.ensures.value in
    inl (taken (app_of c.in_ok-command.command) _ _ c.in-Ok.ensures.kinds c.in_ok-command.ensures at)

pub returns : goal.returns
unfolding line_of
returns c =
    let at = ap (map (λ (w : String Global). string_bytes w)) c.as_slice.ensures.value in
    let kind = kind_of c.in-Err.error in
    record {
      asked = tt;
      not_asked = inr (
        kind,
        (
          shown (app_of c.in_ok-command.command) _ _ c.in-Err.error kind c.in-Err.ensures.kinds c.in_ok-command.ensures at refl (λ bad. c.in_default.not-OutOfMemory (c.kind.ensures ∙ bad)),
          (λ bad. c.in_default.not-DisplayHelp (c.kind.ensures ∙ bad), λ bad. c.in_default.not-DisplayVersion (c.kind.ensures ∙ bad)),
        ),
      );
    }
