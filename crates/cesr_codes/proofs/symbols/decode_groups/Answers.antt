use Rattle.std.proofs.Common.{◌∙◌, ap}
use Rattle.base64.specs.GeneralPurpose.{decode_slice_of}
use Rattle.base64.specs.Engines.{url_safe_no_pad}
use Rattle.cesr_codes.proofs.Decoded.{decoded_ok, refused}
use Rattle.cesr_codes.proofs.symbols.decode_groups.Goals as goal

pub returns-in-Ok : goal.returns-in-Ok
returns-in-Ok c = record {
  decoded = λ _.
      decoded_ok c.args.groups c.args.symbols.now c.args.bytes.now c.decode_slice.new.output c.decode_slice.result c.in-Ok.field-0 c.requires.symbols (λ i. (c.type_inv.symbols i).fits) c.requires.bytes
      (c.decode_slice.auto.output ∙ c.requires.bytes) c.decode_slice.ensures.value c.in-Ok.is c.decode_slice.ensures.written c.decode_slice.ensures.bytes;
  bad = λ e. cc e;
}

pub returns-in-Err : goal.returns-in-Err
returns-in-Err c = record {
  decoded = λ e. cc e;
  bad = λ _.
      refused c.args.groups c.args.symbols.now c.decode_slice.result c.in-Err.field-0 c.requires.symbols (c.decode_slice.ensures.value ∙ ap (decode_slice_of url_safe_no_pad c.args.symbols.now) c.requires.bytes)
      c.in-Err.is;
}
