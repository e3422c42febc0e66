-- A C host gets an answer's numbers, each in a field: number and place, then the values in the order of the fields. What does not apply is 0. Here for what a chip loads, and an image by itself.
use Rattle.std.specs.Prelude.{Option, Result}
use Rattle.base.specs.Answer.{value}
use Rattle.packets.specs.Trace.{write_numbers}
use Rattle.bootreader.specs.Boot.{boot_numbers}
use Rattle.bootreader.specs.Image.{image_numbers}
use Rattle.results.specs.Types.{Refusal, Boot, Accepted, Write, TealsettleBoot, TealsettleWrite, TealsettleImage}

-- `tealsettle_boot`: what the chip loads; or stuck, with the place; or a refusal
unfoldable pub boot_result : Result Boot Refusal → TealsettleBoot
boot_result answer = record {
  number = (boot_numbers answer).number;
  place = (boot_numbers answer).place;
  stuck = value (boot_numbers answer) 0;
  jumped = value (boot_numbers answer) 1;
  sync = value (boot_numbers answer) 2;
  end = value (boot_numbers answer) 3;
  writes = value (boot_numbers answer) 4;
}

-- `tealsettle_write`: the i-th write, or that there is none, or a refusal
unfoldable pub write_result : Result (Option Write) Refusal → TealsettleWrite
write_result answer = record {
  number = (write_numbers answer).number;
  place = (write_numbers answer).place;
  found = value (write_numbers answer) 0;
  register_number = value (write_numbers answer) 1;
  word = value (write_numbers answer) 2;
  word_place = value (write_numbers answer) 3;
}

-- `tealsettle_image_check`: what the image loads by itself, or a refusal
unfoldable pub image_result : Result Accepted Refusal → TealsettleImage
image_result answer = record {
  number = (image_numbers answer).number;
  place = (image_numbers answer).place;
  sync = value (image_numbers answer) 0;
  end = value (image_numbers answer) 1;
  writes = value (image_numbers answer) 2;
}
