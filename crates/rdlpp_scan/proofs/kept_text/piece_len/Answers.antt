use Rattle.std.proofs.Common.{◌≡◌, ◌∙◌, sym, arith, [], None}
use Rattle.rdlpp_scan.specs.KeptText.{Sound, cleared}
use Rattle.rdlpp_scan.specs.Continuations.{as_read}
use Rattle.rdlpp_scan.proofs.Measures.{piece_fault, piece_sound, sound_measured, sound_nothing}
use Rattle.rdlpp_scan.proofs.kept_text.piece_len.Goals as goal

pub returns-in-Some-clause-len : goal.returns-in-Some-clause-len
returns-in-Some-clause-len c = piece_fault c.args.is_logical c.args.text.now c.in-Some.fault c.requires (sym c.lex_fault.ensures ∙ c.in-Some.is)

pub returns-in-None : goal.returns-in-None
returns-in-None c =
    let sound : cleared None (as_read c.args.is_logical c.args.text.now) ≡ Sound c.args.text.now [] = piece_sound c.args.is_logical c.args.text.now c.requires (sym c.lex_fault.ensures ∙ c.in-None.is) in
    record {
      len = sound_measured _ c.args.text.now c.trimmed.result.now sound c.trimmed.ensures.value;
      following = sound_nothing c.args.is_logical _ c.args.text.now sound;
      inside = omega (arith, c.trimmed.ensures.inside);
    }
